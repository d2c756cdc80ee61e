use Rattle.std.proofs.Common.{◌≡◌, Some}
use Rattle.bridge_gate.specs.StandsFor.{state_answer}
use Rattle.bridge_gate.proofs.Asks.{asked, priority_is}
use Rattle.bridge_gate.proofs.ScheduleLaws.{ordered}
use Rattle.bridge_gate.proofs.stream_gate.StreamGate.ask.Goals as goal

pub returns-clause-stands : goal.returns-clause-stands
returns-clause-stands g c =
    let x = c.find_turn-turn.result in
    let same = c.find_turn-turn.ensures.same in
    let told : c.answer_frame.result ≡ state_answer c.args.self.now x c.args.sdu = rw same at c.answer_frame.ensures.reply in
    λ r es st. rw (c.answer_frame.ensures.after, same) (asked c.args.self.now c.args.t c.args.sdu x c.answer_frame.result (ordered _ c.find_turn-turn.ensures.lawful) c.find_turn-turn.ensures.turn c.requires.time told r es st).0

pub returns-clause-answer : goal.returns-clause-answer
returns-clause-answer g c =
    let x = c.find_turn-turn.result in
    let told : c.answer_frame.result ≡ state_answer c.args.self.now x c.args.sdu = rw c.find_turn-turn.ensures.same at c.answer_frame.ensures.reply in
    λ r es st. (asked c.args.self.now c.args.t c.args.sdu x c.answer_frame.result (ordered _ c.find_turn-turn.ensures.lawful) c.find_turn-turn.ensures.turn c.requires.time told r es st).1

pub returns-clause-priority : goal.returns-clause-priority
returns-clause-priority g c =
    let x = c.find_turn-turn.result in
    let told : c.answer_frame.result ≡ state_answer c.args.self.now x c.args.sdu = rw c.find_turn-turn.ensures.same at c.answer_frame.ensures.reply in
    λ ipv is. priority_is c.args.self.now c.args.t c.args.sdu x c.answer_frame.result c.find_turn-turn.ensures.priorities c.find_turn-turn.ensures.turn told ipv is
