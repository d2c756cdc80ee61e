use Rattle.std.proofs.Common.{◌≡◌, ◌∙◌, sym, ap}
use Rattle.bridge_config.proofs.PlanPorts.{port_is}
use Rattle.net_model.specs.Faults.{protected_handle}
use Rattle.net_model.proofs.Skipped.{others_by}
use Rattle.net_model.proofs.handing.receives_every_frame.Goals as goal

pub hands_all-requires : goal.hands_all-requires
hands_all-requires g c =
    let own = (port_is c.args.next.now.ports c.args.at c.in-Some.on.now c.in-Some.ensures.rules.ports (sym c.in-Some.ensures.port)).0 in
    let handle : protected_handle c.args.plan.now.filters c.args.filter ≡ c.protected_handle-handle.result = ap (λ fs. protected_handle fs c.args.filter) (sym c.filters-filters.ensures.filters) ∙ sym c.protected_handle-handle.ensures in
    record {
      handing = record {
        from = c.requires.from;
        to = c.requires.to;
        names = others_by c.args.plan.now c.args.filter c.protected_handle-handle.result c.filters-filters.ensures.rules handle;
        taker_from = own.number_from;
        taker_to = own.number_to;
      };
    }
