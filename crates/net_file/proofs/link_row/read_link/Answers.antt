use Rattle.std.proofs.Common.{◌≡◌, ◌^◌, Ok, refl, ap, sym, subst}
use Rattle.toml.specs.View.{table_view}
use Rattle.bridge_schema.specs.Readers.{number_in_range}
use Rattle.net_file.specs.declared.fault.NetFault.TheVariants as fault
use Rattle.net_file.specs.declared.fault.NetSection.TheVariants as section
use Rattle.net_file.specs.Keys.{Fails, read_or_default, provided, read_required}
use Rattle.net_file.specs.Sections as sections
use Rattle.net_file.proofs.Passing.{fails_here, fails_behind, gives_behind}
use Rattle.net_file.proofs.link_row.read_link.Goals as goal

pub returns-then-not-has_only-clause-reads : goal.returns-then-not-has_only-clause-reads
unfolding sections.read_link
returns-then-not-has_only-clause-reads g c = rw (sym c.if-not-has_only.ensures.known) refl

pub returns-in-Err-clause-reads : goal.returns-in-Err-clause-reads
unfolding sections.read_link
returns-in-Err-clause-reads g c =
    let table = table_view c.args.table.now in
    let known = ap (λ b. provided b (fault.UnknownKey section.Link c.args.index)) (sym c.if-not-has_only.ensures.known) in
    let one = subst (λ p. Fails c.in-Err.fault (read_required p (sections.port_text c.args.bridges.now) table)) c.link_key.ensures c.in-Err.ensures.reads in
    fails_behind _ _ _ _ known (fails_here _ _ _ one)

pub returns-in-Err-read_required-clause-reads : goal.returns-in-Err-read_required-clause-reads
unfolding sections.read_link
returns-in-Err-read_required-clause-reads g c =
    let table = table_view c.args.table.now in
    let known = ap (λ b. provided b (fault.UnknownKey section.Link c.args.index)) (sym c.if-not-has_only.ensures.known) in
    let one = subst (λ p. read_required p (sections.port_text c.args.bridges.now) table ≡ Ok c.in-Ok.one) c.link_key.ensures c.in-Ok.ensures.reads in
    let other = subst (λ p. Fails c.in-Err-read_required.fault (read_required p (sections.port_text c.args.bridges.now) table)) c.link_key-2.ensures c.in-Err-read_required.ensures.reads in
    fails_behind _ _ _ _ known (fails_behind _ _ _ _ one (fails_here _ _ _ other))

pub returns-in-Err-read_or_default-clause-reads : goal.returns-in-Err-read_or_default-clause-reads
unfolding sections.read_link
returns-in-Err-read_or_default-clause-reads g c =
    let table = table_view c.args.table.now in
    let known = ap (λ b. provided b (fault.UnknownKey section.Link c.args.index)) (sym c.if-not-has_only.ensures.known) in
    let one = subst (λ p. read_required p (sections.port_text c.args.bridges.now) table ≡ Ok c.in-Ok.one) c.link_key.ensures c.in-Ok.ensures.reads in
    let other = subst (λ p. read_required p (sections.port_text c.args.bridges.now) table ≡ Ok c.in-Ok-read_required.other) c.link_key-2.ensures c.in-Ok-read_required.ensures.reads in
    let delay = subst (λ p. Fails c.in-Err-read_or_default.fault (read_or_default 0 p (number_in_range 0 (10 ^ 9)) table)) c.link_key-3.ensures c.in-Err-read_or_default.ensures.reads in
    fails_behind _ _ _ _ known (fails_behind _ _ _ _ one (fails_behind _ _ _ _ other (fails_here _ _ _ delay)))

pub returns-clause-reads : goal.returns-clause-reads
unfolding sections.read_link
returns-clause-reads g c =
    let table = table_view c.args.table.now in
    let known = ap (λ b. provided b (fault.UnknownKey section.Link c.args.index)) (sym c.if-not-has_only.ensures.known) in
    let one = subst (λ p. read_required p (sections.port_text c.args.bridges.now) table ≡ Ok c.in-Ok.one) c.link_key.ensures c.in-Ok.ensures.reads in
    let other = subst (λ p. read_required p (sections.port_text c.args.bridges.now) table ≡ Ok c.in-Ok-read_required.other) c.link_key-2.ensures c.in-Ok-read_required.ensures.reads in
    let delay = subst (λ p. read_or_default 0 p (number_in_range 0 (10 ^ 9)) table ≡ Ok c.in-Ok-read_or_default.delay) c.link_key-3.ensures c.in-Ok-read_or_default.ensures.reads in
    gives_behind _ _ _ _ known (gives_behind _ _ _ _ one (gives_behind _ _ _ _ other (gives_behind _ _ _ _ delay refl)))
