use Rattle.std.proofs.Common.{◌+◌, ◌++◌, take, refl, sym, ap, ◌∙◌, subst, arith, length-drop}
use Rattle.std.proofs.lemmas.List.{take_rest}
use Rattle.std.specs.Io.KnownBytes.{Appends}
use Rattle.std.proofs.KnownBytes.{Appends-trans}
use lib.Seq.{take-add}
use Rattle.bridge_capture.proofs.transfer.write_all.Goals as goal

pub returns-in-Err-write_by_many_writes-clause-front : goal.returns-in-Err-write_by_many_writes-clause-front
returns-in-Err-write_by_many_writes-clause-front g c =
    let first = c.in-Ok.first in
    let octets = c.args.octets.now in
    let more = c.in-Err-write_by_many_writes.field-0 in
    let joined = ap (λ l. take first octets ++ take more l) (take_rest octets first) ∙ sym (take-add first more octets) in
    (first + more, (let z = c.in-Ok.ensures.count in let y = c.in-Err-write_by_many_writes.ensures.count in omega (arith, length-drop first octets, z, y)), subst (Appends _ _) joined (Appends-trans _ _ _ _ _ c.in-Ok.ensures.bytes c.in-Err-write_by_many_writes.ensures.part))

pub returns-then-is_empty-clause-lasts : goal.returns-then-is_empty-clause-lasts
returns-then-is_empty-clause-lasts g c = λ sure. sure

pub returns-in-Err-clause-fails : goal.returns-in-Err-clause-fails
returns-in-Err-clause-fails g c = c.in-Err.ensures.fails

pub returns-in-Err-clause-sure : goal.returns-in-Err-clause-sure
returns-in-Err-clause-sure g c = c.in-Err.ensures.sure

pub returns-in-Err-clause-lasts : goal.returns-in-Err-clause-lasts
returns-in-Err-clause-lasts g c = c.in-Err.ensures.lasts

pub returns-in-Err-clause-stays : goal.returns-in-Err-clause-stays
returns-in-Err-clause-stays g c = λ broken some. refl

pub returns-in-Ok-write_by_many_writes-clause-lasts : goal.returns-in-Ok-write_by_many_writes-clause-lasts
returns-in-Ok-write_by_many_writes-clause-lasts g c = λ sure. c.write_by_many_writes.ensures.lasts (c.in-Ok.ensures.lasts sure)

pub returns-in-Ok-write_by_many_writes-clause-stays : goal.returns-in-Ok-write_by_many_writes-clause-stays
returns-in-Ok-write_by_many_writes-clause-stays g c = λ broken some. c.in-Ok.ensures.stays broken

pub returns-in-Err-write_by_many_writes-clause-fails : goal.returns-in-Err-write_by_many_writes-clause-fails
returns-in-Err-write_by_many_writes-clause-fails g c = c.in-Err-write_by_many_writes.ensures.fails

pub returns-in-Err-write_by_many_writes-clause-sure : goal.returns-in-Err-write_by_many_writes-clause-sure
returns-in-Err-write_by_many_writes-clause-sure g c = λ sure. c.in-Err-write_by_many_writes.ensures.sure (c.in-Ok.ensures.lasts sure)

pub returns-in-Err-write_by_many_writes-clause-lasts : goal.returns-in-Err-write_by_many_writes-clause-lasts
returns-in-Err-write_by_many_writes-clause-lasts g c = λ sure. c.write_by_many_writes.ensures.lasts (c.in-Ok.ensures.lasts sure)

pub returns-in-Err-write_by_many_writes-clause-stays : goal.returns-in-Err-write_by_many_writes-clause-stays
returns-in-Err-write_by_many_writes-clause-stays g c = λ broken some. refl
