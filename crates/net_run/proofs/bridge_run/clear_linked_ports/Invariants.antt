use Rattle.std.proofs.Common.{◌≡◌, length}
use Rattle.net_run.specs.BridgeRuns.{NoInputBeforeIndex, open_texts, sender_values, text_octets}
use Rattle.net_run.proofs.bridge_run.clear_linked_ports.Given as goal

abbrev pub invariant-loop-place : goal.invariant-loop-place
invariant-loop-place g l = record {
  many : length l.texts.items ≡ length l.senders;
  same : open_texts (sender_values l.senders) (text_octets l.texts.items) ≡ open_texts (sender_values l.senders) (text_octets l.initial.texts.items);
  empty : NoInputBeforeIndex l.place (sender_values l.senders) (text_octets l.texts.items);
}
