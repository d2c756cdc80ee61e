-- Which tags an entry of the stream identity table matches, computed.
use Rattle.std.specs.Prelude.{◌≡◌, true, false, Some, None, refl}
use Rattle.bridge_ident.specs.declared.TagKind.TheVariants.{Tagged, Priority, All}
use Rattle.bridge_ident.specs.Identification.{accepts_tag}

-- The tag has priority 7; VLAN identifier 10 names a VLAN, 0 doesn't.
pub tagged_frame : accepts_tag Tagged (Some (record { pcp = 7; dei = false; vid = 10 })) ≡ true
tagged_frame = refl

pub priority_tagged_frame : accepts_tag Tagged (Some (record { pcp = 7; dei = false; vid = 0 })) ≡ false
priority_tagged_frame = refl

pub frame_without_a_tag : accepts_tag Priority None ≡ true
frame_without_a_tag = refl

pub any_frame : accepts_tag All None ≡ true
any_frame = refl
