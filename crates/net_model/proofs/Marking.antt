-- A frame's head has equal fields, apart from the drop eligible bit, whether or not the bit was set.
use Rattle.std.proofs.Common.{◌≡◌, ℕ, Bool, true, false, List, refl, Option, Some, None, Ok}
use Rattle.bridge_frame.specs.declared.Head.{Head}
use Rattle.bridge_frame.specs.declared.Tag.{Tag}
use Rattle.bridge_frame.specs.Frames.{parsed_head, drop_eligible_head}
use Rattle.bridge_frame.proofs.Marking.{marked_head}
use Rattle.bridge_semantics.specs.Offers.{leaving_octets}
use Rattle.net_model.specs.LinkFrames.{tag_by_priority}

-- A tag without its drop eligible bit.
abbrev pub plain : Option Tag → Option Tag
plain None = None
plain (Some t) = Some (tag_by_priority t.pcp t.vid)

pub record SameHead (g h : Head) : Type 0 where
  pub da : g.da ≡ h.da
  pub sa : g.sa ≡ h.sa
  pub tag : plain g.tag ≡ plain h.tag

same_head : (h : Head) → SameHead h h
same_head h = record { da = refl; sa = refl; tag = refl }

tag_marked : (da sa : List ℕ) (t : Option Tag) (sdu : ℕ) → plain t ≡ plain (drop_eligible_head (record { da = da; sa = sa; tag = t; sdu = sdu })).tag
tag_marked da sa None sdu = refl
tag_marked da sa (Some t) sdu = refl

-- A frame that leaves has the head with which it arrived, apart from the drop eligible bit.
pub leaving_head : (eligible : Bool) (octets : List ℕ) (len : ℕ) (h : Head) → parsed_head octets len ≡ Ok h → (g : Head) × (parsed_head (leaving_octets eligible octets) len ≡ Ok g) × SameHead h g
leaving_head true octets len h e = (drop_eligible_head h, marked_head octets len h e, record { da = refl; sa = refl; tag = tag_marked h.da h.sa h.tag h.sdu })
leaving_head false octets len h e = (h, e, same_head h)
