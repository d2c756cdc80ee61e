-- Calls of `count_down` on a shared counter: the precondition, and the result, which is true if this allocation is refused.
use Rattle.std.proofs.Common.{◌≡◌, ℕ, Bool, List, [], ◌∷◌, refl, ap}
use seplogic.Ra.Ura.{Ura}
use mir.Val.{Val, vbool, vptr}
use base.Logic.{SProp, ent, ex, sep, guard, id⊢}
use base.Fml.{Lft, Share, ftrue, fsep, flft}
use prog.Memory.{Memory}
use prog.Routine.{Routine}
use types.Logic.{Logic, sem}
use contract.Monad.{Fun}
use types.Kit.{‵, ◌⊛◌, some, later, ◌$◌, ◌∵◌, !, qed, move, keep, use1, split, join, pick, fjoin, feq_i, feq_l, check, show, await, updating, now as at_once, done}
use denote.RattleType.{RattleType}
use denote.Memory.{hidden_shr}
use denote.Builtin.{u64, bool}
use denote.Steps.{nothing, only}
use denote.Triple.Statement.{Contract}
use denote.Triple.Spec.{triple_of}
use Rattle.std.specs.contracts.cell.Cell as cells
use Rattle.fixture_bridge.specs.contracts.refuses_one.count_down as ticks

abbrev Count : RattleType
Count = cells.the_row u64

module _ {M : Type 1} {𝓤 : Ura M} (𝓛 : Logic 𝓤) (at_mem : Memory → SProp 𝓤) (run : Routine → Fun 𝓤) where
  abbrev pub Tick : Contract 𝓤
  Tick = triple_of 𝓛 ticks.signature (ticks.spec 𝓛 at_mem run)

  abbrev pub at_tick : Lft → Share → ℕ × ℕ → Tick.Ghost
  at_tick κ q place = (((κ, tt), (q, tt), tt, (record { ref_ptr = place; now = record { value = tt } }, tt), (vptr place.0 place.1 ∷ [], tt)), tt)

module _ {M : Type 1} {𝓤 : Ura M} (𝓛 : Logic 𝓤) (at_mem : Memory → SProp 𝓤) (run : Routine → Fun 𝓤) (κ : Lft) (q : Share) (place : ℕ × ℕ) where
  open 𝓛 use {H, A}

  pub Tick-goes : ent 𝓤 (sep 𝓤 (sem 𝓛 (hidden_shr Count κ (record { value = tt }) place.0 place.1)) (A.lft κ q)) ((Tick 𝓛 at_mem run).pre (at_tick 𝓛 at_mem run κ q place))
  Tick-goes =
      qed 𝓛 (‵ (hidden_shr Count κ (record { value = tt }) place.0 place.1) ∷ ‵ (flft κ q) ∷ []) ∵ feq_i ! (List Val) (vptr place.0 place.1 ∷ []) (vptr place.0 place.1 ∷ []) refl $ fjoin ! $
      nothing ! $ move ! (1 ∷ []) $ fjoin ! $ nothing ! $ move ! (2 ∷ []) $ join ! $ join ! $ nothing ! $ move ! (1 ∷ []) $ done !

  pub Tick-gives : (v : Val) → ent 𝓤 ((Tick 𝓛 at_mem run).post (at_tick 𝓛 at_mem run κ q place) v) (H.⇛ (ex 𝓤 (λ (r : Bool). guard 𝓤 (v ≡ vbool r) (A.lft κ q))))
  Tick-gives v =
      qed 𝓛 (types.Kit.raw ((Tick 𝓛 at_mem run).post (at_tick 𝓛 at_mem run κ q place) v) ∷ []) ∵ updating ! $
      use1 𝓛 (later (some (λ (r : Bool). ((‵ (flft κ q) ⊛ ‵ ftrue) ⊛ ‵ (bool.own_val r (v ∷ []))) ⊛ some (λ (ws : Unit {0} × Unit {0}). ‵ (fsep ftrue ftrue) ⊛ ‵ ftrue)))) (id⊢ 𝓤 _) $ await ! tt $ pick ! (λ r.
      split ! $ split ! $ move ! (1 ∷ []) $ feq_l ! (λ e. split ! $ at_once ! $ show ! (λ (r : Bool). guard 𝓤 (v ≡ vbool r) (A.lft κ q)) r $ check ! (ap only e) $ keep ! (0 ∷ []) $ done !))
