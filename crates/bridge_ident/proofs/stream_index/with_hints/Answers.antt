use Rattle.bridge_ident.proofs.stream_index.with_hints.Goals as goal

pub returns-in-Ok : goal.returns-in-Ok
returns-in-Ok g c = λ tagged entries found marked sources sources_marked. record {
  by_destination = found;
  destinations_marked = marked;
  by_source = sources;
  sources_marked = sources_marked;
}
