use Rattle.std.proofs.Common.{◌≡◌, ◌-◌, List, ℕ, ◌∙◌, arith, subst, sym, set, Some}
use Rattle.std.specs.Prelude.{nat_eq, if◌then◌else◌}
use Rattle.std.proofs.lemmas.List.{length-set}
use Rattle.bridge_events.specs.Tree.{HaveOwnKeys, TreeState, tree_time}
use Rattle.bridge_events.proofs.Trees.{own_keys, set_held}
use Rattle.bridge_events.proofs.tree_agenda.TreeAgendaAgenda.set.Goals as goal

pub invariant_of-self : goal.invariant_of-self
invariant_of-self c =
    let was = c.self.invariant.tree in
    let put = c.put_key-self-inside in
    let from = c.requires.from in
    let to = c.requires.to in
    let size = was.size in
    let sizes = was.times in
    record {
      tree = record {
        size = put.ensures.sizes.0;
        times = length-set c.self.inside.times (c.args.port - 1) c.args.t ∙ was.times;
        groups = put.ensures.sizes.1;
        won = put.ensures.won;
        root = put.ensures.root;
        own = subst (λ (keys : List ℕ). HaveOwnKeys keys (set c.self.inside.times (c.args.port - 1) c.args.t)) (sym put.ensures.keys) (own_keys c.self.inside.keys c.self.inside.times (c.args.port - 1) c.entry_key-key.result c.args.t (omega arith) size sizes (λ l. c.entry_key-key.ensures.key) was.own);
      };
      rest = put.ensures.rest;
    }

pub returns : goal.returns
returns c =
    let was = c.self.invariant.tree in
    let keys = c.self.inside.keys in
    let times = c.self.inside.times in
    let place = c.args.port - 1 in
    λ p. subst (λ (a : TreeState). tree_time c.put_key-self-inside.new.keys (set times place c.args.t) p ≡ (if nat_eq p c.args.port then Some c.args.t else tree_time a.keys a.times p)) c.self.view_is (subst (λ (xs : List ℕ). tree_time xs (set times place c.args.t) p ≡ (if nat_eq p c.args.port then Some c.args.t else tree_time keys times p)) (sym c.put_key-self-inside.ensures.keys) (set_held keys times c.args.port c.entry_key-key.result c.args.t c.requires.from c.requires.to was.size was.times c.entry_key-key.ensures.some p))
