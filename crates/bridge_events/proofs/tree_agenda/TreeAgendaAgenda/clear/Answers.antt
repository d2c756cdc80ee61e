use Rattle.std.proofs.Common.{◌-◌, List, ℕ, arith, subst, sym}
use Rattle.bridge_events.specs.Tree.{HaveOwnKeys}
use Rattle.bridge_events.proofs.Trees.{own_keys_without}
use Rattle.bridge_events.proofs.tree_agenda.TreeAgendaAgenda.clear.Goals as goal

pub invariant_of-self : goal.invariant_of-self
invariant_of-self c =
    let was = c.self.invariant.tree in
    let put = c.put_key-self-inside in
    let from = c.requires.from in
    let to = c.requires.to in
    let size = was.size in
    record {
      tree = record {
        size = put.ensures.sizes.0;
        times = was.times;
        groups = put.ensures.sizes.1;
        won = put.ensures.won;
        root = put.ensures.root;
        own = subst (λ (keys : List ℕ). HaveOwnKeys keys c.self.inside.times) (sym put.ensures.keys) (own_keys_without c.self.inside.keys c.self.inside.times (c.args.port - 1) (omega arith) size was.own);
      };
      rest = put.ensures.rest;
    }
