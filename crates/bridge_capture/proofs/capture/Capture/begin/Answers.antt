use Rattle.std.proofs.Common.{rules, arith, refl, true≢false, sym, ◌∙◌, subst, take_all}
use Rattle.std.specs.Io.KnownBytes.{Consumes}
use Rattle.std.proofs.lemmas.List.{length-take}
use Rattle.bridge_capture.proofs.Headers.{begun, begun_cut, begun_fault, begun_short, header_read}
use Rattle.bridge_capture.specs.declared.capture_fault.CaptureFault.TheVariants as faults
use Rattle.bridge_capture.specs.Reading.{IsHeaderFault}
use Rattle.bridge_capture.proofs.Answered.{apart, of_kind}
use Rattle.bridge_capture.proofs.Taken.{header_taken}
use Rattle.bridge_capture.proofs.capture.Capture.begin.Goals as goal

pub returns-in-Err-clause-stands : goal.returns-in-Err-clause-stands
returns-in-Err-clause-stands g c = λ text told. begun_short _ _ text told c.in-Err.ensures.part

pub returns-then-count-lt-HEADER_LEN-clause-stands : goal.returns-then-count-lt-HEADER_LEN-clause-stands
returns-then-count-lt-HEADER_LEN-clause-stands g c = λ text told.
    begun_cut _ _ text _ told c.in-Ok.ensures.bytes (c.in-Ok.ensures.end (search rules)) (omega (arith, length-take c.in-Ok.count c.fill_buffer.new.buf))

pub returns-in-Ok-parse_header-clause-stands : goal.returns-in-Ok-parse_header-clause-stands
returns-in-Ok-parse_header-clause-stands g c = λ text told.
    let octets = c.fill_buffer.new.buf in
    let full = subst (Consumes _ _) (take_all c.in-Ok.count octets (omega (arith, c.in-Ok.ensures.count))) c.in-Ok.ensures.bytes in
    let shown = header_read _ _ text octets told full (search rules) ∙ sym c.in-Ok-parse_header.ensures.judged in
    begun _ _ text octets c.in-Ok-parse_header.form told full (search rules) shown

pub returns-in-Err-parse_header-clause-stands : goal.returns-in-Err-parse_header-clause-stands
returns-in-Err-parse_header-clause-stands g c = λ text told.
    let octets = c.fill_buffer.new.buf in
    let full = subst (Consumes _ _) (take_all c.in-Ok.count octets (omega (arith, c.in-Ok.ensures.count))) c.in-Ok.ensures.bytes in
    begun_fault text (g.R.ByteSource.remaining c.fill_buffer.new.source) c.in-Err-parse_header.fault c.in-Err-parse_header.ensures.only (header_read _ _ text octets told full (search rules) ∙ sym c.in-Err-parse_header.ensures.judged)

pub returns-in-Err-clause-taken : goal.returns-in-Err-clause-taken
returns-in-Err-clause-taken g c = c.in-Err.ensures.part

pub returns-in-Err-clause-read : goal.returns-in-Err-clause-read
returns-in-Err-clause-read g c = λ e. c.in-Err.ensures.fails

pub returns-in-Err-clause-sure : goal.returns-in-Err-clause-sure
returns-in-Err-clause-sure g c = λ sure. absurd (true≢false (sym (c.in-Err.ensures.sure sure).0))

pub returns-in-Err-clause-lasts : goal.returns-in-Err-clause-lasts
returns-in-Err-clause-lasts g c = λ sure. absurd (true≢false (sym (c.in-Err.ensures.sure sure).0))

pub returns-in-Err-clause-broken : goal.returns-in-Err-clause-broken
returns-in-Err-clause-broken g c = λ _. refl

pub returns-in-Err-clause-no_write : goal.returns-in-Err-clause-no_write
returns-in-Err-clause-no_write g c = λ e. apart e refl

pub returns-in-Err-clause-no_memory : goal.returns-in-Err-clause-no_memory
returns-in-Err-clause-no_memory g c = λ e. apart e refl

pub returns-then-count-lt-HEADER_LEN-clause-read : goal.returns-then-count-lt-HEADER_LEN-clause-read
returns-then-count-lt-HEADER_LEN-clause-read g c = λ e. absurd (apart e refl)

pub returns-then-count-lt-HEADER_LEN-clause-sure : goal.returns-then-count-lt-HEADER_LEN-clause-sure
returns-then-count-lt-HEADER_LEN-clause-sure g c = λ sure e. apart e refl

pub returns-then-count-lt-HEADER_LEN-clause-lasts : goal.returns-then-count-lt-HEADER_LEN-clause-lasts
returns-then-count-lt-HEADER_LEN-clause-lasts g c = λ sure. (c.in-Ok.ensures.sure sure).1

pub returns-then-count-lt-HEADER_LEN-clause-broken : goal.returns-then-count-lt-HEADER_LEN-clause-broken
returns-then-count-lt-HEADER_LEN-clause-broken g c = λ broken. absurd (true≢false (sym (c.in-Ok.ensures.stays broken (omega arith))))

pub returns-then-count-lt-HEADER_LEN-clause-no_write : goal.returns-then-count-lt-HEADER_LEN-clause-no_write
returns-then-count-lt-HEADER_LEN-clause-no_write g c = λ e. apart e refl

pub returns-then-count-lt-HEADER_LEN-clause-no_memory : goal.returns-then-count-lt-HEADER_LEN-clause-no_memory
returns-then-count-lt-HEADER_LEN-clause-no_memory g c = λ e. apart e refl

pub returns-in-Ok-parse_header-clause-read : goal.returns-in-Ok-parse_header-clause-read
returns-in-Ok-parse_header-clause-read g c = λ e. absurd (apart e refl)

pub returns-in-Ok-parse_header-clause-sure : goal.returns-in-Ok-parse_header-clause-sure
returns-in-Ok-parse_header-clause-sure g c = λ sure e. apart e refl

pub returns-in-Ok-parse_header-clause-lasts : goal.returns-in-Ok-parse_header-clause-lasts
returns-in-Ok-parse_header-clause-lasts g c = λ sure. (c.in-Ok.ensures.sure sure).1

pub returns-in-Ok-parse_header-clause-broken : goal.returns-in-Ok-parse_header-clause-broken
returns-in-Ok-parse_header-clause-broken g c = λ broken. absurd (true≢false (sym (c.in-Ok.ensures.stays broken (omega arith))))

pub returns-in-Ok-parse_header-clause-no_write : goal.returns-in-Ok-parse_header-clause-no_write
returns-in-Ok-parse_header-clause-no_write g c = λ e. apart e refl

pub returns-in-Ok-parse_header-clause-no_memory : goal.returns-in-Ok-parse_header-clause-no_memory
returns-in-Ok-parse_header-clause-no_memory g c = λ e. apart e refl

pub returns-in-Err-parse_header-clause-read : goal.returns-in-Err-parse_header-clause-read
returns-in-Err-parse_header-clause-read g c = λ e. absurd (of_kind IsHeaderFault c.in-Err-parse_header.fault faults.Read c.in-Err-parse_header.ensures.only (λ x. x) e)

pub returns-in-Err-parse_header-clause-sure : goal.returns-in-Err-parse_header-clause-sure
returns-in-Err-parse_header-clause-sure g c = λ sure. of_kind IsHeaderFault c.in-Err-parse_header.fault faults.Read c.in-Err-parse_header.ensures.only (λ x. x)

pub returns-in-Err-parse_header-clause-no_write : goal.returns-in-Err-parse_header-clause-no_write
returns-in-Err-parse_header-clause-no_write g c = of_kind IsHeaderFault c.in-Err-parse_header.fault faults.Write c.in-Err-parse_header.ensures.only (λ x. x)

pub returns-in-Err-parse_header-clause-no_memory : goal.returns-in-Err-parse_header-clause-no_memory
returns-in-Err-parse_header-clause-no_memory g c = of_kind IsHeaderFault c.in-Err-parse_header.fault faults.NoMemory c.in-Err-parse_header.ensures.only (λ x. x)

pub returns-in-Err-parse_header-clause-lasts : goal.returns-in-Err-parse_header-clause-lasts
returns-in-Err-parse_header-clause-lasts g c = λ sure. (c.in-Ok.ensures.sure sure).1

pub returns-in-Err-parse_header-clause-broken : goal.returns-in-Err-parse_header-clause-broken
returns-in-Err-parse_header-clause-broken g c = λ broken. absurd (true≢false (sym (c.in-Ok.ensures.stays broken (omega arith))))

pub returns-in-Err-parse_header-clause-taken : goal.returns-in-Err-parse_header-clause-taken
returns-in-Err-parse_header-clause-taken g c =
    let octets = c.fill_buffer.new.buf in
    let full = subst (Consumes _ _) (take_all c.in-Ok.count octets (omega (arith, c.in-Ok.ensures.count))) c.in-Ok.ensures.bytes in
    header_taken _ _ octets c.in-Err-parse_header.fault c.in-Err-parse_header.ensures.only (search rules) full
