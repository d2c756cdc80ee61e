use Rattle.std.proofs.Common.{◌≡◌, ◌<◌, List, [], ◌∷◌, ◌++◌, Some, ap, length, slice_get, sym, subst, ◌∙◌, rules}
use Rattle.std.proofs.lemmas.Option.{slice_get-get_or}
use Rattle.std.proofs.lemmas.List.{map-id}
use Rattle.std.proofs.lemmas.Iterator.Adapters.{YieldsList-from_vec}
use Rattle.std.proofs.lemmas.Iterator.Consumers.{YieldsList-end}
use Rattle.bridge_config.specs.Model.{Plan}
use Rattle.app_networks.specs.OutputFiles.{AreWrittenBy, IsBridgeWritten, folder_path}
use Rattle.app_files.specs.declared.failed_file.Access.TheVariants.{Writing}
use Rattle.app_networks.specs.RunFiles.{IsBridgeOutputFile, NamesFile}
use Rattle.app_networks.proofs.RunFiles.{name_at, output_at}
use Rattle.app_networks.proofs.Written.{file_contents, written_many, written_push}
use Rattle.app_networks.proofs.writing.write_bridges.Goals as goal

pub returns-clause-written : goal.returns-clause-written
returns-clause-written g c =
    let all = c.args.outputs.items in
    let yielded = c.loop-opened.yielded in
    let road = YieldsList-from_vec {s = c.into_iter-opened-iterator.result} all c.into_iter-opened-iterator.ensures.into_iter_gives.0 (search rules) in
    let end = YieldsList-end road yielded c.loop-opened.opened-iterator c.loop-opened.yielded_by c.next.result c.next.new.self c.in-None.is c.next.ensures.steps in
    let same = sym (map-id yielded) ∙ end.0 in
    subst (λ os. AreWrittenBy (IsBridgeWritten (file_contents g.F.Write.contents)) os c.args.settled.now c.loop-opened.done.items) same c.loop-opened.invariant

pub loop-opened-preserved : goal.loop-opened-preserved
loop-opened-preserved g c =
    let yielded = c.loop-opened.yielded in
    let sources = c.args.settled.now in
    let many = written_many (IsBridgeWritten (file_contents g.F.Write.contents)) yielded sources c.loop-opened.done.items c.loop-opened.invariant in
    let here : c.len-place.result ≡ length yielded = c.len-place.ensures ∙ (c.loop-opened.done.ok.0 ∙ many) in
    let within : c.len-place.result < length sources = search rules in
    let at : slice_get sources (length yielded) ≡ Some c.index-settled-place.result =
    ap (slice_get sources) (sym here) ∙ (slice_get-get_or sources c.len-place.result _ within ∙ ap Some (sym c.index-settled-place.is)) in
    subst (AreWrittenBy (IsBridgeWritten (file_contents g.F.Write.contents)) (yielded ++ c.in-Some.opened ∷ []) sources) (sym c.in-Ok-push.ensures.items)
    (written_push (IsBridgeWritten (file_contents g.F.Write.contents)) yielded sources c.loop-opened.done.items c.in-Some.opened c.index-settled-place.result _ c.loop-opened.invariant at c.in-Ok-write_bridge.ensures.written)

pub returns-in-Err-clause-fails : goal.returns-in-Err-clause-fails
returns-in-Err-clause-fails g c =
    let n = c.args.network.now in
    let bridges = c.args.bridges.now in
    let output = c.args.output.now in
    let plans = c.plans-plans.result.now in
    let i = c.len-place.result in
    let p = c.index-plans-place.result in
    let folder = c.as_str.result.now in
    let within : i < length plans = search rules in
    let named : i < length bridges = search rules in
    let there : slice_get plans i ≡ Some p = slice_get-get_or plans i _ within ∙ ap Some (sym c.index-plans-place.is) in
    let at : slice_get bridges i ≡ Some c.index-bridges-place.result = slice_get-get_or bridges i _ named ∙ ap Some (sym c.index-bridges-place.is) in
    output_at n.plans bridges output folder i p c.in-Err.fault
    (subst (λ (ps : List (Plan _)). slice_get ps i ≡ Some p) c.plans-plans.ensures.plans there)
    (c.as_str.ensures.value ∙ (c.in-Ok.ensures ∙ ap (folder_path output) (c.name.ensures ∙ sym (name_at bridges i _ at))))
    (subst (λ (q : Plan _). NamesFile Writing (IsBridgeOutputFile q folder) c.in-Err.fault) c.plan.ensures.plan c.in-Err.ensures.fails)
