use Rattle.std.proofs.Common.{◌≡◌, ◌∙◌, ◌++◌, ap, string_bytes}
use Rattle.net_check.specs.Warnings.{streams_text}
use Rattle.net_check.proofs.warnings.all_warnings.Goals as goal

pub returns : goal.returns
returns g c = record {
  bounds = c.args.bounds.now;
  are_bounds = c.requires.bounds;
  told = string_bytes c.in_ok-text.text;
  are_told = c.in_ok-text.ensures;
  text_is = c.in_ok-push_warnings.ensures;
}
