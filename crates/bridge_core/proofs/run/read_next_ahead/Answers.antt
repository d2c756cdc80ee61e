use Rattle.std.proofs.Common.{◌≡◌, ◌<◌, ◌∙◌, arith, get_or, length, refl, subst, sym, true}
use Rattle.std.proofs.lemmas.Option.{same_Some, slice_get-get_or}
use Rattle.bridge_limits.proofs.Lists.{set_here}
use Rattle.bridge_capture.proofs.Looks.{lasts_set, sure_next}
use Rattle.bridge_core.proofs.run.read_next_ahead.Goals as goal

pub returns-clause-looked : goal.returns-clause-looked
returns-clause-looked g c =
    let within : c.args.place < length c.args.sources.now = (let place = c.requires.place in let size = c.requires.size in omega arith) in
    record {
      was = get_or c.args.lanes.now c.args.place c.index-lanes-place.result;
      source = get_or c.args.sources.now c.args.place c.index-sources-place.result;
      lane = c.read_ahead.new.self;
      rest = c.read_ahead.new.source;
      there = slice_get-get_or c.args.lanes.now c.args.place _ c.requires.place;
      lent = slice_get-get_or c.args.sources.now c.args.place _ within;
      lanes = refl;
      sources = refl;
      number = c.read_ahead.ensures.number;
      looks = c.read_ahead.ensures.looks;
      is_lane = c.read_ahead.ensures.lane;
      onward = c.read_ahead.ensures.onward;
      fewer = c.read_ahead.ensures.fewer;
    }

pub returns-clause-read : goal.returns-clause-read
returns-clause-read g c = λ is source there.
    let within : c.args.place < length c.args.sources.now = (let place = c.requires.place in let size = c.requires.size in omega arith) in
    subst (λ s. g.R.ByteSource.has_failed s ≡ true) (same_Some c.read_ahead.new.source source (sym (set_here c.args.sources.now c.args.place c.read_ahead.new.source within) ∙ there)) (c.read_ahead.ensures.read is)

pub returns-clause-sure : goal.returns-clause-sure
returns-clause-sure g c = λ sure is.
    let within : c.args.place < length c.args.sources.now = (let place = c.requires.place in let size = c.requires.size in omega arith) in
    c.read_ahead.ensures.sure (sure_next g.R.ByteSource.never_fails c.args.sources.now c.args.place c.index-sources-place.result within sure) is

pub returns-clause-lasts : goal.returns-clause-lasts
returns-clause-lasts g c = λ sure.
    let within : c.args.place < length c.args.sources.now = (let place = c.requires.place in let size = c.requires.size in omega arith) in
    lasts_set g.R.ByteSource.never_fails c.args.sources.now c.args.place c.index-sources-place.result c.read_ahead.new.source within c.read_ahead.ensures.lasts sure

pub read_ahead-requires : goal.read_ahead-requires
read_ahead-requires g c = record { reading = c.requires.reading _ (slice_get-get_or c.args.lanes.now c.args.place _ c.requires.place) }

pub returns-clause-no_write : goal.returns-clause-no_write
returns-clause-no_write g c = c.read_ahead.ensures.no_write
