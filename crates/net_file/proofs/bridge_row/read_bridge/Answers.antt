use Rattle.std.proofs.Common.{◌≡◌, Ok, refl, ap, sym, subst}
use Rattle.toml.specs.View.{table_view}
use Rattle.net_file.specs.declared.fault.NetFault.TheVariants as fault
use Rattle.net_file.specs.declared.fault.NetSection.TheVariants as section
use Rattle.net_file.specs.Keys.{Fails, any_text, name_text, provided, read_required}
use Rattle.net_file.specs.Sections as sections
use Rattle.net_file.proofs.Passing.{fails_here, fails_behind, gives_behind}
use Rattle.net_file.proofs.bridge_row.read_bridge.Goals as goal

pub returns-then-not-has_only-clause-reads : goal.returns-then-not-has_only-clause-reads
unfolding sections.read_bridge
returns-then-not-has_only-clause-reads g c = rw (sym c.if-not-has_only.ensures.known) refl

pub returns-in-Err-clause-reads : goal.returns-in-Err-clause-reads
unfolding sections.read_bridge
returns-in-Err-clause-reads g c =
    let table = table_view c.args.table.now in
    let known = ap (λ b. provided b (fault.UnknownKey section.Bridge c.args.index)) (sym c.if-not-has_only.ensures.known) in
    let name = subst (λ p. Fails c.in-Err.fault (read_required p name_text table)) c.bridge_key.ensures c.in-Err.ensures.reads in
    fails_behind _ _ _ _ known (fails_here _ _ _ name)

pub returns-in-Err-read_text-clause-reads : goal.returns-in-Err-read_text-clause-reads
unfolding sections.read_bridge
returns-in-Err-read_text-clause-reads g c =
    let table = table_view c.args.table.now in
    let known = ap (λ b. provided b (fault.UnknownKey section.Bridge c.args.index)) (sym c.if-not-has_only.ensures.known) in
    let name = subst (λ p. read_required p name_text table ≡ Ok c.in-Ok.name.now) c.bridge_key.ensures c.in-Ok.ensures.reads in
    let plan = subst (λ p. Fails c.in-Err-read_text.fault (read_required p any_text table)) c.bridge_key-2.ensures c.in-Err-read_text.ensures.reads in
    fails_behind _ _ _ _ known (fails_behind _ _ _ _ name (fails_here _ _ _ plan))

pub returns-then-has_bridge-clause-reads : goal.returns-then-has_bridge-clause-reads
unfolding sections.read_bridge
returns-then-has_bridge-clause-reads g c =
    let table = table_view c.args.table.now in
    let known = ap (λ b. provided b (fault.UnknownKey section.Bridge c.args.index)) (sym c.if-not-has_only.ensures.known) in
    let name = subst (λ p. read_required p name_text table ≡ Ok c.in-Ok.name.now) c.bridge_key.ensures c.in-Ok.ensures.reads in
    let plan = subst (λ p. read_required p any_text table ≡ Ok c.in-Ok-read_text.plan.now) c.bridge_key-2.ensures c.in-Ok-read_text.ensures.reads in
    gives_behind _ _ _ _ known (gives_behind _ _ _ _ name (gives_behind _ _ _ _ plan (rw (sym c.if-has_bridge.ensures) refl)))

pub returns-clause-reads : goal.returns-clause-reads
unfolding sections.read_bridge
returns-clause-reads g c =
    let table = table_view c.args.table.now in
    let known = ap (λ b. provided b (fault.UnknownKey section.Bridge c.args.index)) (sym c.if-not-has_only.ensures.known) in
    let name = subst (λ p. read_required p name_text table ≡ Ok c.in-Ok.name.now) c.bridge_key.ensures c.in-Ok.ensures.reads in
    let plan = subst (λ p. read_required p any_text table ≡ Ok c.in-Ok-read_text.plan.now) c.bridge_key-2.ensures c.in-Ok-read_text.ensures.reads in
    gives_behind _ _ _ _ known (gives_behind _ _ _ _ name (gives_behind _ _ _ _ plan (rw (sym c.if-has_bridge.ensures, c.in-Ok-from_str.ensures.ok, c.in-Ok-from_str-2.ensures.ok) refl)))
