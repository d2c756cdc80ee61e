use Rattle.std.proofs.Common.{◌≡◌, ◌<◌, [], ◌∷◌, ◌++◌, Some, ap, length, slice_get, sym, subst, ◌∙◌, rules}
use Rattle.std.proofs.lemmas.Option.{slice_get-get_or}
use Rattle.std.proofs.lemmas.List.{map-id}
use Rattle.std.proofs.lemmas.Iterator.Adapters.{YieldsList-from_vec}
use Rattle.std.proofs.lemmas.Iterator.Consumers.{YieldsList-end}
use Rattle.app_networks.specs.OutputFiles.{AreWrittenBy, IsTapWritten}
use Rattle.app_files.proofs.Failed.{index_in}
use Rattle.app_networks.proofs.RunFiles.{one_capture}
use Rattle.app_networks.proofs.Written.{file_contents, written_many, written_push}
use Rattle.app_networks.proofs.writing.write_captures.Goals as goal

pub returns-clause-written : goal.returns-clause-written
returns-clause-written g c =
    let all = c.args.outputs.items in
    let yielded = c.loop-output.yielded in
    let road = YieldsList-from_vec {s = c.into_iter-output-iterator.result} all c.into_iter-output-iterator.ensures.into_iter_gives.0 (search rules) in
    let end = YieldsList-end road yielded c.loop-output.output-iterator c.loop-output.yielded_by c.next.result c.next.new.self c.in-None.is c.next.ensures.steps in
    let same = sym (map-id yielded) ∙ end.0 in
    subst (λ os. AreWrittenBy (IsTapWritten (file_contents g.F.Write.contents)) os c.args.taps.now c.loop-output.done.items) same c.loop-output.invariant

pub loop-output-preserved : goal.loop-output-preserved
loop-output-preserved g c =
    let yielded = c.loop-output.yielded in
    let sources = c.args.taps.now in
    let many = written_many (IsTapWritten (file_contents g.F.Write.contents)) yielded sources c.loop-output.done.items c.loop-output.invariant in
    let here : c.len-place.result ≡ length yielded = c.len-place.ensures ∙ (c.loop-output.done.ok.0 ∙ many) in
    let within : c.len-place.result < length sources = search rules in
    let at : slice_get sources (length yielded) ≡ Some c.index-taps-place.result =
    ap (slice_get sources) (sym here) ∙ (slice_get-get_or sources c.len-place.result _ within ∙ ap Some (sym c.index-taps-place.is)) in
    subst (AreWrittenBy (IsTapWritten (file_contents g.F.Write.contents)) (yielded ++ c.in-Some.output ∷ []) sources) (sym c.in-Ok-push.ensures.items)
    (written_push (IsTapWritten (file_contents g.F.Write.contents)) yielded sources c.loop-output.done.items c.in-Some.output c.index-taps-place.result _ c.loop-output.invariant at c.in-Ok.ensures.written)

pub returns-in-Err-clause-fails : goal.returns-in-Err-clause-fails
returns-in-Err-clause-fails g c =
    let ports = c.args.ports.now in
    let within : c.len-place.result < length ports = search rules in
    one_capture c.args.folder.now ports _ c.in-Err.fault (index_in ports c.len-place.result within) c.in-Err.ensures.fails
