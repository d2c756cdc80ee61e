-- Parts of a gate control list, before the rules of lists are tested. No public clause uses this definition.
use Rattle.std.specs.Prelude.{option_map}
use Rattle.bridge_config.specs.declared.lists.ListParts.{ListParts}
use Rattle.bridge_config.specs.Sections as sections

-- The parts of a list that the code has read, in the type that definitions use.
abbrev pub list_parts_view : {X A : Type 0} → ListParts X A → sections.ListParts X
list_parts_view p = record { base = p.base; cycle = p.cycle; entries = option_map (λ v. v.items) p.entries }
