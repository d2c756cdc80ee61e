use Rattle.std.proofs.Common.{ℕ, subst}
use Rattle.bridge_port.specs.StandsFor.{IsNextStart, HasStartedOldest}
use Rattle.bridge_relay.proofs.Starting.{start_is, moved_is, done_is}
use Rattle.bridge_relay.proofs.port_state.PortState.start.Goals as goal

pub returns-clause-moved : goal.returns-clause-moved
returns-clause-moved g c =
    let f = c.start-item.ensures in
    let k = start_is c.args.self.now.port c.start-item.new.self c.args.start c.start-item.result.1 c.start-item.result.0 c.requires.due f.which in
    moved_is c.args.self.now c.start-item.new.self c.args.start c.start-item.result.1 c.start-item.result.0 k f.moved

pub returns-clause-next : goal.returns-clause-next
returns-clause-next g c =
    let f = c.start-item.ensures in
    let k = start_is c.args.self.now.port c.start-item.new.self c.args.start c.start-item.result.1 c.start-item.result.0 c.requires.due f.which in
    subst (λ (n : ℕ). IsNextStart c.args.self.now.port n c.start-item.result.1 c.start-item.result.0) k f.next

pub returns-clause-stands : goal.returns-clause-stands
returns-clause-stands g c = λ xs st.
    let f = c.start-item.ensures in
    let k = start_is c.args.self.now.port c.start-item.new.self c.args.start c.start-item.result.1 c.start-item.result.0 c.requires.due f.which in
    subst (λ (n : ℕ). HasStartedOldest c.start-item.new.self c.start-item.result.1 n c.start-item.result.0 xs) k (f.stands xs st)

pub returns-clause-done : goal.returns-clause-done
returns-clause-done g c =
    let f = c.start-item.ensures in
    let k = start_is c.args.self.now.port c.start-item.new.self c.args.start c.start-item.result.1 c.start-item.result.0 c.requires.due f.which in
    done_is c.args.self.now.port c.start-item.new.self c.args.start c.start-item.result.1 c.start-item.result.0 c.args.self.now.speed c.free_time-done.result k f.moved c.requires.speed c.free_time-done.ensures.free
