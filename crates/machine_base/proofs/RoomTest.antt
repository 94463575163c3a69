-- What the test of a base's room says of an object.
use Rattle.std.proofs.Common.{◌≡◌, ◌≢◌, ℕ, ◌<◌, ◌≤◌, ◌==◌, ◌⊎◌, inl, inr, Bool, true, false, true≢false, cond, length, Contains, List, IsTrue, ◌↔◌, not, refl, sym, ap, subst, ◌∙◌, arith}
use Rattle.std.proofs.lemmas.Bool.{cases_Bool, eq-eqb, eqb-true}
use Rattle.ranked_list.specs.declared.need.Need.TheVariants.{Done}
use Rattle.topk_theory.specs.declared.access.Access.{Access}
use Rattle.topk_theory.specs.Transcript.{seen_objects}
use Rattle.machine_base.specs.Machine.{HasRoomFor}
use Rattle.machine_base.specs.declared.core_fault.CoreFault.{CoreFault}
use Rattle.machine_base.specs.declared.core_fault.CoreFault.TheVariants.{Strangers, RoomFull}
use Rattle.machine_base.specs.declared.base.Base.{Base}
use Rattle.machine_base.specs.Base.{shown, Holds, TellsNew, HasNoRoom}

-- an object is new where it wasn't seen
pub tells_new : (A : List Access) (object : ℕ) (seen : Bool) → IsTrue seen ↔ Contains (seen_objects A) object → TellsNew A object (not seen)
tells_new A object true told = record { unseen = λ new there. true≢false (sym new); seen = λ old. told.0 refl }
tells_new A object false told = record { unseen = λ new there. true≢false (sym (told.1 there)); seen = λ old. absurd (true≢false old) }

-- one that wasn't seen has no room where as many were seen as may be
pub none_fits : (A : List Access) (object room : ℕ) (seen : Bool) → IsTrue seen ↔ Contains (seen_objects A) object → seen ≡ false
    → room ≤ length (seen_objects A) → ¬ (Contains (seen_objects A) object ⊎ (length (seen_objects A) < room))
none_fits A object room seen told unseen full fits =
    elim fits [ inl there ↦ true≢false (sym (told.1 there) ∙ unseen) | inr spare ↦ omega (arith, full, spare) ]

-- and then it is a stranger, or the room is full
pub no_room_by : (object count : ℕ) (base : Base) (fault : CoreFault) → Holds base → ¬ HasRoomFor (shown base Done) object
    → fault ≡ cond {A = CoreFault} (base.room == count) (Strangers object count) (RoomFull base.room) → count ≡ base.transcript.count
    → HasNoRoom object base fault
no_room_by object count base fault held none is same =
    elim (cases_Bool (base.room == count)) [
      | inl t ↦
          let stranger : fault ≡ Strangers object count = is ∙ ap (λ b. cond {A = CoreFault} b (Strangers object count) (RoomFull base.room)) t in
          subst (HasNoRoom object base) (sym stranger) (none, eqb-true base.room count t ∙ same, refl, same)
      | inr f ↦
          let full : fault ≡ RoomFull base.room = is ∙ ap (λ b. cond {A = CoreFault} b (Strangers object count) (RoomFull base.room)) f in
          let fits : base.room ≤ base.transcript.count = held.posed.room_fits in
          let other : base.room ≢ count = λ e. true≢false (sym (eq-eqb base.room count e) ∙ f) in
          subst (HasNoRoom object base) (sym full) (none, omega (arith, fits, other, same), refl)
    ]
