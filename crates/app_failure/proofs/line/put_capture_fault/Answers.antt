use Rattle.std.proofs.Common.{ap, sym}
use Rattle.bridge_text.proofs.Puts.{put_as}
use Rattle.app_failure.specs.Lines.{capture_fault_line}
use Rattle.app_failure.proofs.line.put_capture_fault.Goals as goal

pub returns-in-BadMagic : goal.returns-in-BadMagic
returns-in-BadMagic g c = put_as _ _ _ _ c.put_refused_capture.ensures (ap (capture_fault_line c.args.port) (sym c.in-BadMagic.is))

pub returns-in-BadVersion : goal.returns-in-BadVersion
returns-in-BadVersion g c = put_as _ _ _ _ c.put_refused_capture-in-BadVersion.ensures (ap (capture_fault_line c.args.port) (sym c.in-BadVersion.is))

pub returns-in-BadLinkType : goal.returns-in-BadLinkType
returns-in-BadLinkType g c = put_as _ _ _ _ c.put_refused_capture-in-BadLinkType.ensures (ap (capture_fault_line c.args.port) (sym c.in-BadLinkType.is))

pub returns-in-HeaderCut : goal.returns-in-HeaderCut
returns-in-HeaderCut g c = put_as _ _ _ _ c.put_refused_capture-in-HeaderCut.ensures (ap (capture_fault_line c.args.port) (sym c.in-HeaderCut.is))

pub returns-in-RecordCut : goal.returns-in-RecordCut
returns-in-RecordCut g c = put_as _ _ _ _ c.put_refused_record.ensures (ap (capture_fault_line c.args.port) (sym c.in-RecordCut.is))

pub returns-in-LengthsCross : goal.returns-in-LengthsCross
returns-in-LengthsCross g c = put_as _ _ _ _ c.put_refused_record-in-LengthsCross.ensures (ap (capture_fault_line c.args.port) (sym c.in-LengthsCross.is))

pub returns-in-RecordTooLarge : goal.returns-in-RecordTooLarge
returns-in-RecordTooLarge g c = put_as _ _ _ _ c.put_refused_record-in-RecordTooLarge.ensures (ap (capture_fault_line c.args.port) (sym c.in-RecordTooLarge.is))

pub returns-in-TimeBack : goal.returns-in-TimeBack
returns-in-TimeBack g c = put_as _ _ _ _ c.put_refused_record-in-TimeBack.ensures (ap (capture_fault_line c.args.port) (sym c.in-TimeBack.is))

pub returns-in-TimeTooLate : goal.returns-in-TimeTooLate
returns-in-TimeTooLate g c = put_as _ _ _ _ c.put_refused_record-in-TimeTooLate.ensures (ap (capture_fault_line c.args.port) (sym c.in-TimeTooLate.is))

pub returns-in-TooManyRecords : goal.returns-in-TooManyRecords
returns-in-TooManyRecords g c = put_as _ _ _ _ c.put_refused_capture-in-TooManyRecords.ensures (ap (capture_fault_line c.args.port) (sym c.in-TooManyRecords.is))

pub returns-in-Read : goal.returns-in-Read
returns-in-Read g c = put_as _ _ _ _ c.put_unread.ensures (ap (capture_fault_line c.args.port) (sym c.in-Read.is))

pub returns-in-Write : goal.returns-in-Write
returns-in-Write g c = put_as _ _ _ _ c.put_unwritten.ensures (ap (capture_fault_line c.args.port) (sym c.in-Write.is))
