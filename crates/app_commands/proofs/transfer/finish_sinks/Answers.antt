use Rattle.std.proofs.Common.{◌≡◌, [], ◌∷◌, ◌++◌, false, sym, subst, ◌∙◌, arith, rules, length-append}
use Rattle.std.proofs.lemmas.Bool.{false_from_ne_true, false≢true}
use Rattle.std.proofs.lemmas.Iterator.Adapters.{YieldsList-from_vec}
use Rattle.std.proofs.lemmas.Iterator.Consumers.{YieldsList-so_far, YieldsList-turn}
use Rattle.app_commands.specs.Flushed.{AllKept, NoneFailed}
use Rattle.app_commands.proofs.Devices.{broken, sunk}
use Rattle.app_commands.proofs.Kept.{front_few, front_of, kept_push, none_push}
use Rattle.app_commands.proofs.transfer.finish_sinks.Goals as goal

pub loop-sink-preserved : goal.loop-sink-preserved
loop-sink-preserved g c =
    let sound : c.in-Some.sink.sink.is_broken ≡ false = false_from_ne_true c.in-Some.sink.sink.is_broken (λ failed. false≢true (c.in-Ok.ensures.failed failed)) in
    record {
      kept = subst (AllKept (sunk g.W.Write.contents) g.W.Write.contents (c.loop-sink.yielded ++ c.in-Some.sink ∷ [])) (sym c.in-Ok-push.ensures.items)
          (kept_push (sunk g.W.Write.contents) g.W.Write.contents c.loop-sink.yielded c.loop-sink.flushed.items c.in-Some.sink c.in-Ok.writer c.loop-sink.invariant.kept c.in-Ok.ensures.contents);
      sound = none_push broken c.loop-sink.yielded c.in-Some.sink c.loop-sink.invariant.sound sound;
      count = (let more = c.in-Ok-push.ensures.len in let before = c.loop-sink.invariant.count in omega (arith, more, before, length-append c.loop-sink.yielded (c.in-Some.sink ∷ [])));
      room = (let grows = c.push.ensures.capacity in let before = c.loop-sink.invariant.room in omega (arith, grows, before));
    }

pub unreachable-requires : goal.unreachable-requires
unreachable-requires g c =
    let sinks = c.args.sinks.items in
    let yielded = c.loop-sink.yielded in
    let road = YieldsList-from_vec {s = c.into_iter-sink-iterator.result} sinks c.into_iter-sink-iterator.ensures.into_iter_gives.0 (search rules) in
    let turn = YieldsList-turn road yielded c.loop-sink.sink-iterator c.loop-sink.yielded_by c.next.result c.next.new.self c.in-Some.sink c.in-Some.is c.next.ensures.steps in
    let full = c.in-Err-push.ensures.full in
    let room = c.loop-sink.invariant.room in
    let count = c.loop-sink.invariant.count in
    let few = turn.0 in
    omega (arith, full, room, count, few)

pub returns-in-Err-clause-few : goal.returns-in-Err-clause-few
returns-in-Err-clause-few g c =
    let sinks = c.args.sinks.items in
    let yielded = c.loop-sink.yielded in
    let road = YieldsList-from_vec {s = c.into_iter-sink-iterator.result} sinks c.into_iter-sink-iterator.ensures.into_iter_gives.0 (search rules) in
    let so_far = YieldsList-so_far road yielded c.loop-sink.sink-iterator c.loop-sink.yielded_by in
    let count = sym c.loop-sink.flushed.ok.0 ∙ c.loop-sink.invariant.count in
    front_few sinks yielded _ so_far count

pub returns-in-Err-clause-kept : goal.returns-in-Err-clause-kept
returns-in-Err-clause-kept g c =
    let sinks = c.args.sinks.items in
    let yielded = c.loop-sink.yielded in
    let road = YieldsList-from_vec {s = c.into_iter-sink-iterator.result} sinks c.into_iter-sink-iterator.ensures.into_iter_gives.0 (search rules) in
    let so_far = YieldsList-so_far road yielded c.loop-sink.sink-iterator c.loop-sink.yielded_by in
    let count = sym c.loop-sink.flushed.ok.0 ∙ c.loop-sink.invariant.count in
    subst (λ front. AllKept (sunk g.W.Write.contents) g.W.Write.contents front c.loop-sink.flushed.items) (front_of sinks yielded _ so_far count) c.loop-sink.invariant.kept

pub returns-in-Err-clause-sound : goal.returns-in-Err-clause-sound
returns-in-Err-clause-sound g c =
    let sinks = c.args.sinks.items in
    let yielded = c.loop-sink.yielded in
    let road = YieldsList-from_vec {s = c.into_iter-sink-iterator.result} sinks c.into_iter-sink-iterator.ensures.into_iter_gives.0 (search rules) in
    let so_far = YieldsList-so_far road yielded c.loop-sink.sink-iterator c.loop-sink.yielded_by in
    let count = sym c.loop-sink.flushed.ok.0 ∙ c.loop-sink.invariant.count in
    subst (NoneFailed broken) (front_of sinks yielded _ so_far count) c.loop-sink.invariant.sound

pub returns-clause-few : goal.returns-clause-few
returns-clause-few g c =
    let sinks = c.args.sinks.items in
    let yielded = c.loop-sink.yielded in
    let road = YieldsList-from_vec {s = c.into_iter-sink-iterator.result} sinks c.into_iter-sink-iterator.ensures.into_iter_gives.0 (search rules) in
    let so_far = YieldsList-so_far road yielded c.loop-sink.sink-iterator c.loop-sink.yielded_by in
    let count = sym c.loop-sink.flushed.ok.0 ∙ c.loop-sink.invariant.count in
    front_few sinks yielded _ so_far count

pub returns-clause-kept : goal.returns-clause-kept
returns-clause-kept g c =
    let sinks = c.args.sinks.items in
    let yielded = c.loop-sink.yielded in
    let road = YieldsList-from_vec {s = c.into_iter-sink-iterator.result} sinks c.into_iter-sink-iterator.ensures.into_iter_gives.0 (search rules) in
    let so_far = YieldsList-so_far road yielded c.loop-sink.sink-iterator c.loop-sink.yielded_by in
    let count = sym c.loop-sink.flushed.ok.0 ∙ c.loop-sink.invariant.count in
    subst (λ front. AllKept (sunk g.W.Write.contents) g.W.Write.contents front c.loop-sink.flushed.items) (front_of sinks yielded _ so_far count) c.loop-sink.invariant.kept

pub returns-clause-sound : goal.returns-clause-sound
returns-clause-sound g c =
    let sinks = c.args.sinks.items in
    let yielded = c.loop-sink.yielded in
    let road = YieldsList-from_vec {s = c.into_iter-sink-iterator.result} sinks c.into_iter-sink-iterator.ensures.into_iter_gives.0 (search rules) in
    let so_far = YieldsList-so_far road yielded c.loop-sink.sink-iterator c.loop-sink.yielded_by in
    let count = sym c.loop-sink.flushed.ok.0 ∙ c.loop-sink.invariant.count in
    subst (NoneFailed broken) (front_of sinks yielded _ so_far count) c.loop-sink.invariant.sound
