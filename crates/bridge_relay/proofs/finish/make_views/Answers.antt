use Rattle.std.proofs.Common.{◌∙◌, ℕ, false, None, ap, length, refl, slice_index_or}
use Rattle.bridge_relay.proofs.Rooms.{few_more, none_few, room_kept, room_left}
use Rattle.bridge_filter.specs.declared.FilterPlan.{FilterPlan}
use Rattle.bridge_relay.proofs.Viewing.{there_at, table_next, viewing_start, viewing_next, viewing_end}
use Rattle.bridge_relay.proofs.finish.make_views.Goals as goal

none : ℕ × FilterPlan
none = (0, record { handle = None; priority = None; gate = 0; max_sdu = None; meter = None; block_oversize = false; protected = false; group = None })

pub loop-entry-init : goal.loop-entry-init
loop-entry-init g c =
    let none = c.requires.none in
    record {
      viewing = viewing_start c.args.police.now c.args.tables.entries c.args.order.now c.args.views.items none;
      few = none_few _ (c.args.views.ok.0 ∙ ap length none);
      room = c.requires.room;
    }

pub make_view-view-requires-clause-filter : goal.make_view-view-requires-clause-filter
unfolding none
make_view-view-requires-clause-filter g c =
    let x = slice_index_or c.args.order.now c.loop-entry.entry-index none in
    c.requires.filters x.0 (there_at c.args.order.now c.loop-entry.entry-index x none c.loop-entry-test.true refl)

pub make_view-view-requires-clause-table : goal.make_view-view-requires-clause-table
unfolding none
make_view-view-requires-clause-table g c =
    let x = slice_index_or c.args.order.now c.loop-entry.entry-index none in
    table_next c.args.police.now c.args.tables.entries c.loop-entry.tables.entries c.args.order.now c.loop-entry.entry-index c.loop-entry.views.items x none c.loop-entry-test.true refl c.loop-entry.invariant.viewing
    (c.requires.tables x.0 (there_at c.args.order.now c.loop-entry.entry-index x none c.loop-entry-test.true refl))

pub loop-entry-preserved : goal.loop-entry-preserved
unfolding none
loop-entry-preserved g c =
    let x = slice_index_or c.args.order.now c.loop-entry.entry-index none in
    let was = c.loop-entry.invariant in
    let is = c.push_reserved.ensures in
    record {
      viewing = viewing_next c.args.police.now c.args.tables.entries c.loop-entry.tables.entries c.make_view-view.new.tables.entries c.args.order.now c.loop-entry.entry-index c.loop-entry.views.items c.push_reserved.new.self.items x none c.make_view-view.result c.requires.rises c.loop-entry-test.true refl c.loop-entry.invariant.viewing (c.make_view-view.ensures.shown x.1 refl) c.make_view-view.ensures.fresh c.push_reserved.ensures.items;
      few = few_more _ _ c.loop-entry.entry-index was.few is.len;
      room = room_kept _ _ _ was.room is.capacity;
    }

pub bounds-order-entry-index : goal.bounds-order-entry-index
bounds-order-entry-index g c = c.loop-entry-test.true

pub push_reserved-requires : goal.push_reserved-requires
push_reserved-requires g c =
    let was = c.loop-entry.invariant in
    room_left _ c.loop-entry.entry-index _ _ was.few c.loop-entry-test.true was.room

pub returns : goal.returns
returns g c = viewing_end c.args.police.now c.args.tables.entries c.loop-entry.tables.entries c.args.order.now c.loop-entry.entry-index c.loop-entry.views.items c.loop-entry-test.false c.loop-entry.invariant.viewing
