use Rattle.std.proofs.Common.{◌≡◌, ◌∙◌, ℕ, [], All, Vec, ap, arith, length, sym, subst}
use Rattle.std.proofs.lemmas.List.Elements.{All-nil, All-push}
use Rattle.bridge_relay.proofs.Newly.{one_longer}
use Rattle.bridge_relay.proofs.Rooms.{is_end, room_kept, room_left, same_few}
use Rattle.bridge_relay.proofs.copies.fill_copies.Goals as goal

pub loop-init : goal.loop-init
loop-init g c =
    let items : c.reserve.new.self.items ≡ [] = c.reserve.ensures.items ∙ c.requires.none in
    let none = ap length items in
    let some = c.reserve.new.self.ok in
    let fits = c.in-Ok.ensures.ok in
    record {
      count = none;
      octets = subst (All (λ v. v.items ≡ c.args.octets.now)) (sym items) (All-nil _);
      room = omega (arith, none, some, fits);
    }

pub push_reserved-requires : goal.push_reserved-requires
push_reserved-requires g c =
    let was = c.loop.invariant in
    room_left _ c.loop.counter c.args.count _ (same_few _ _ _ c.loop.copies.ok.0 was.count) c.loop-test.true was.room

pub loop-preserved : goal.loop-preserved
loop-preserved g c =
    let was = c.loop.invariant in
    let is = c.push_reserved.ensures in
    record {
      count = one_longer c.loop.copies.items _ c.in-Ok-copy_octets.copy c.loop.counter was.count is.items;
      octets = subst (All (λ v. v.items ≡ c.args.octets.now)) (sym is.items) (All-push (λ (v : Vec ℕ _). v.items ≡ c.args.octets.now) c.loop.copies.items c.in-Ok-copy_octets.copy was.octets c.in-Ok-copy_octets.ensures);
      room = room_kept c.args.count _ _ was.room is.capacity;
    }

pub returns-clause-count : goal.returns-clause-count
returns-clause-count g c = c.loop.invariant.count ∙ is_end c.loop.counter c.args.count c.loop.auto.counter-end c.loop-test.false

pub returns-clause-octets : goal.returns-clause-octets
returns-clause-octets g c = c.loop.invariant.octets
