use Rattle.std.proofs.Common.{◌≡◌, Ok, refl, ap, sym, subst, rules}
use Rattle.toml.specs.Data.{get_member}
use Rattle.toml.specs.View.{table_view}
use Rattle.net_file.specs.declared.fault.NetFault.TheVariants as fault
use Rattle.net_file.specs.declared.fault.NetField.TheVariants as field
use Rattle.net_file.specs.declared.fault.NetSection.TheVariants as section
use Rattle.net_file.specs.Faults.{key_name}
use Rattle.net_file.specs.Keys.{Fails, name_text, provided, read_required}
use Rattle.net_file.specs.Sections as sections
use Rattle.net_file.proofs.Passing.{fails_here, fails_behind, gives_behind}
use Rattle.net_file.proofs.stream_row.read_stream.Goals as goal

pub returns-then-not-has_only-clause-reads : goal.returns-then-not-has_only-clause-reads
unfolding sections.read_stream
returns-then-not-has_only-clause-reads g c = rw (sym c.if-not-has_only.ensures.known) refl

pub returns-in-Err-clause-reads : goal.returns-in-Err-clause-reads
unfolding sections.read_stream
returns-in-Err-clause-reads g c =
    let table = table_view c.args.table.now in
    let known = ap (λ b. provided b (fault.UnknownKey section.Stream c.args.index)) (sym c.if-not-has_only.ensures.known) in
    let name = subst (λ p. Fails c.in-Err.fault (read_required p name_text table)) c.stream_key.ensures c.in-Err.ensures.reads in
    fails_behind _ _ _ _ known (fails_here _ _ _ name)

pub returns-in-Err-hops_value-clause-reads : goal.returns-in-Err-hops_value-clause-reads
unfolding sections.read_stream
returns-in-Err-hops_value-clause-reads g c =
    let table = table_view c.args.table.now in
    let known = ap (λ b. provided b (fault.UnknownKey section.Stream c.args.index)) (sym c.if-not-has_only.ensures.known) in
    let name = subst (λ p. read_required p name_text table ≡ Ok c.in-Ok.name.now) c.stream_key.ensures c.in-Ok.ensures.reads in
    let hops : Fails c.in-Err-hops_value.fault (sections.hops_value (record { section = section.Stream; index = c.args.index; field = field.Hops }) c.args.bridges.now (get_member (key_name field.Hops) table))
    = search (rules, c.in-Err-hops_value.ensures.reads, c.stream_key-2.ensures, c.get_value-value.ensures.value, c.key.ensures.spelling) in
    fails_behind _ _ _ _ known (fails_behind _ _ _ _ name (fails_here _ _ _ hops))

pub returns-in-Err-read_optional_talker-clause-reads : goal.returns-in-Err-read_optional_talker-clause-reads
unfolding sections.read_stream
returns-in-Err-read_optional_talker-clause-reads g c =
    let table = table_view c.args.table.now in
    let known = ap (λ b. provided b (fault.UnknownKey section.Stream c.args.index)) (sym c.if-not-has_only.ensures.known) in
    let name = subst (λ p. read_required p name_text table ≡ Ok c.in-Ok.name.now) c.stream_key.ensures c.in-Ok.ensures.reads in
    let hops : sections.hops_value (record { section = section.Stream; index = c.args.index; field = field.Hops }) c.args.bridges.now (get_member (key_name field.Hops) table) ≡ Ok c.in-Ok-hops_value.hops.items
    = search (rules, c.in-Ok-hops_value.ensures.reads, c.stream_key-2.ensures, c.get_value-value.ensures.value, c.key.ensures.spelling) in
    fails_behind _ _ _ _ known (fails_behind _ _ _ _ name (fails_behind _ _ _ _ hops (fails_here _ _ _ c.in-Err-read_optional_talker.ensures.reads)))

pub returns-in-Err-read_deadline-clause-reads : goal.returns-in-Err-read_deadline-clause-reads
unfolding sections.read_stream
returns-in-Err-read_deadline-clause-reads g c =
    let table = table_view c.args.table.now in
    let known = ap (λ b. provided b (fault.UnknownKey section.Stream c.args.index)) (sym c.if-not-has_only.ensures.known) in
    let name = subst (λ p. read_required p name_text table ≡ Ok c.in-Ok.name.now) c.stream_key.ensures c.in-Ok.ensures.reads in
    let hops : sections.hops_value (record { section = section.Stream; index = c.args.index; field = field.Hops }) c.args.bridges.now (get_member (key_name field.Hops) table) ≡ Ok c.in-Ok-hops_value.hops.items
    = search (rules, c.in-Ok-hops_value.ensures.reads, c.stream_key-2.ensures, c.get_value-value.ensures.value, c.key.ensures.spelling) in
    fails_behind _ _ _ _ known (fails_behind _ _ _ _ name (fails_behind _ _ _ _ hops (fails_behind _ _ _ _ c.in-Ok-read_optional_talker.ensures.reads (fails_here _ _ _ c.in-Err-read_deadline.ensures.reads))))

pub returns-then-has_stream-clause-reads : goal.returns-then-has_stream-clause-reads
unfolding sections.read_stream
returns-then-has_stream-clause-reads g c =
    let table = table_view c.args.table.now in
    let known = ap (λ b. provided b (fault.UnknownKey section.Stream c.args.index)) (sym c.if-not-has_only.ensures.known) in
    let name = subst (λ p. read_required p name_text table ≡ Ok c.in-Ok.name.now) c.stream_key.ensures c.in-Ok.ensures.reads in
    let hops : sections.hops_value (record { section = section.Stream; index = c.args.index; field = field.Hops }) c.args.bridges.now (get_member (key_name field.Hops) table) ≡ Ok c.in-Ok-hops_value.hops.items
    = search (rules, c.in-Ok-hops_value.ensures.reads, c.stream_key-2.ensures, c.get_value-value.ensures.value, c.key.ensures.spelling) in
    gives_behind _ _ _ _ known (gives_behind _ _ _ _ name (gives_behind _ _ _ _ hops (gives_behind _ _ _ _ c.in-Ok-read_optional_talker.ensures.reads (gives_behind _ _ _ _ c.in-Ok-read_deadline.ensures.reads
    (rw (sym c.if-has_stream.ensures) refl)))))

pub returns-clause-reads : goal.returns-clause-reads
unfolding sections.read_stream
returns-clause-reads g c =
    let table = table_view c.args.table.now in
    let known = ap (λ b. provided b (fault.UnknownKey section.Stream c.args.index)) (sym c.if-not-has_only.ensures.known) in
    let name = subst (λ p. read_required p name_text table ≡ Ok c.in-Ok.name.now) c.stream_key.ensures c.in-Ok.ensures.reads in
    let hops : sections.hops_value (record { section = section.Stream; index = c.args.index; field = field.Hops }) c.args.bridges.now (get_member (key_name field.Hops) table) ≡ Ok c.in-Ok-hops_value.hops.items
    = search (rules, c.in-Ok-hops_value.ensures.reads, c.stream_key-2.ensures, c.get_value-value.ensures.value, c.key.ensures.spelling) in
    gives_behind _ _ _ _ known (gives_behind _ _ _ _ name (gives_behind _ _ _ _ hops (gives_behind _ _ _ _ c.in-Ok-read_optional_talker.ensures.reads (gives_behind _ _ _ _ c.in-Ok-read_deadline.ensures.reads
    (rw (sym c.if-has_stream.ensures, c.in-Ok-from_str.ensures.ok) refl)))))

pub returns-clause-stream : goal.returns-clause-stream
returns-clause-stream g c = record {
  name = rw c.in-Ok-from_str.ensures.ok c.in-Ok.ensures.name;
  some_hop = c.in-Ok-hops_value.ensures.some;
  few_hops = c.in-Ok-hops_value.ensures.few;
  bridges = c.in-Ok-hops_value.ensures.there;
  filters = c.in-Ok-hops_value.ensures.numbers;
  talker = c.in-Ok-read_optional_talker.ensures.talker;
  deadline = c.in-Ok-read_deadline.ensures.soon;
}
