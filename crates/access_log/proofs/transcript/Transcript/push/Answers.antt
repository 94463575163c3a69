use Rattle.std.proofs.Common.{◌≡◌, ◌+◌, ◌<◌, ◌≤◌, ℕ, List, [], ◌∷◌, ◌++◌, length, Option, position, nat_eq, sym, ap, subst, ◌∙◌, arith}
use Rattle.topk_theory.specs.declared.access.Access.{Access}
use Rattle.topk_theory.specs.Transcript.{object_of, list_of, named_objects}
use Rattle.access_log.specs.Objects.{FitsAccess}
use Rattle.access_log.proofs.ObjectsKept.{list_in_range}
use Rattle.access_log.proofs.Pushing.{refusal, no_room, few_named, still_agrees, named_room, spare_room, depth_small, one_more, kept_moved, kept_pushed}
use Rattle.access_log.proofs.transcript.Transcript.push.Goals as goal

-- the place of the object among those that the accesses name
place_is : (a : Access) (A : List Access) (keys : List ℕ) (object : ℕ) (place : Option ℕ) → place ≡ position (nat_eq object) keys → object ≡ object_of a
    → keys ≡ named_objects A → place ≡ position (nat_eq (object_of a)) (named_objects A)
place_is a A keys object place e f g = e ∙ ap (λ x. position (nat_eq x) keys) f ∙ ap (position (nat_eq (object_of a))) g

pub returns-in-Some-clause-cause : goal.returns-in-Some-clause-cause
returns-in-Some-clause-cause c =
    let k = c.self.invariant in
    let p = place_is c.args.access c.self.inside.accesses.items c.self.inside.objects.names.keys c.object.result c.place-place.result c.place-place.ensures c.object.ensures k.objects.names in
    let counted : c.len.result ≡ length c.self.inside.accesses.items = omega (arith, c.len.ensures, c.self.inside.accesses.ok.0) in
    refusal c.args.self.now c.self.inside.lists c.self.inside.count c.self.inside.spare_objects c.self.inside.spare_accesses c.self.inside.accesses.items c.args.access c.in-Some.kind c.len.result c.self.view_is (c.in-Some.ensures c.self.inside.accesses.items k.agrees k.objects k.ends p) counted

pub make_room-requires-clause-fits : goal.make_room-requires-clause-fits
make_room-requires-clause-fits c =
    let k = c.self.invariant in
    let p = place_is c.args.access c.self.inside.accesses.items c.self.inside.objects.names.keys c.object.result c.place-place.result c.place-place.ensures c.object.ensures k.objects.names in
    few_named c.self.inside.lists c.self.inside.count c.self.inside.accesses.items c.args.access c.self.inside.objects.names.keys c.place-place.result k.limits k.objects.names p (c.in_default.ensures c.self.inside.accesses.items k.agrees k.objects k.ends p)

pub invariant_of-self : goal.invariant_of-self
invariant_of-self c =
    let k = c.self.invariant in
    kept_moved c.self.inside.lists c.self.inside.count _ _ c.self.inside.spare_objects c.self.inside.spare_accesses _ _ c.self.inside.accesses.items c.make_room.new.accesses.items c.self.inside.objects c.make_room.new.objects c.self.inside.ends k c.make_room.ensures.accesses
    (c.make_room.ensures.kept c.self.inside.lists c.self.inside.accesses.items k.objects) c.make_room.ensures.room (omega (arith, k.object_room, c.make_room.ensures.no_less)) (omega (arith, k.access_room, c.make_room.ensures.capacity))

pub returns-in_default-make_room-clause-cause : goal.returns-in_default-make_room-clause-cause
returns-in_default-make_room-clause-cause c =
    let k = c.self.invariant in
    let p = place_is c.args.access c.self.inside.accesses.items c.self.inside.objects.names.keys c.object.result c.place-place.result c.place-place.ensures c.object.ensures k.objects.names in
    no_room c.args.self.now c.self.inside.lists c.self.inside.count c.self.inside.spare_objects c.self.inside.spare_accesses c.self.inside.accesses.items c.args.access _ _ c.self.inside.objects.room c.self.inside.objects.names.keys c.place-place.result
    c.self.view_is (omega (arith, c.self.inside.accesses.ok.0)) k.access_room k.objects.names k.object_room p c.in_default-make_room.ensures.refused

pub note-requires-clause-known : goal.note-requires-clause-known
note-requires-clause-known c =
    let k = c.self.invariant in
    let p = place_is c.args.access c.self.inside.accesses.items c.self.inside.objects.names.keys c.object.result c.place-place.result c.place-place.ensures c.object.ensures k.objects.names in (
      c.self.inside.lists,
      c.self.inside.count,
      c.self.inside.accesses.items,
      (record {
        few = k.limits.few_lists;
        agrees = still_agrees c.self.inside.lists c.self.inside.count c.self.inside.accesses.items c.args.access k.agrees (c.in_default.ensures c.self.inside.accesses.items k.agrees k.objects k.ends p);
        objects = c.make_room.ensures.kept c.self.inside.lists c.self.inside.accesses.items k.objects;
        place = p;
        room = named_room c.self.inside.accesses.items c.args.access c.place-place.result c.make_room.new.objects.room p
            (λ q. let h = c.in-Ok.ensures.object_room q in let same : length c.make_room.new.objects.names.keys ≡ length (named_objects c.self.inside.accesses.items) = ap (length {A = ℕ}) (c.make_room.ensures.kept c.self.inside.lists c.self.inside.accesses.items k.objects).names in omega arith)
            (omega (arith, k.object_room, c.make_room.ensures.no_less));
      }),
    )

pub note-requires-2-clause-list : goal.note-requires-2-clause-list
note-requires-2-clause-list c =
    let k = c.self.invariant in
    let p = place_is c.args.access c.self.inside.accesses.items c.self.inside.objects.names.keys c.object.result c.place-place.result c.place-place.ensures c.object.ensures k.objects.names in
    let some = still_agrees c.self.inside.lists c.self.inside.count c.self.inside.accesses.items c.args.access k.agrees (c.in_default.ensures c.self.inside.accesses.items k.agrees k.objects k.ends p) in
    let l : list_of c.args.access < c.self.inside.lists = list_in_range c.self.inside.lists c.self.inside.count c.self.inside.accesses.items c.args.access some in
    let few = k.limits.few_lists in
    omega arith

pub note-requires-2-clause-depth : goal.note-requires-2-clause-depth
note-requires-2-clause-depth c =
    let k = c.self.invariant in
    let p = place_is c.args.access c.self.inside.accesses.items c.self.inside.objects.names.keys c.object.result c.place-place.result c.place-place.ensures c.object.ensures k.objects.names in
    let some = still_agrees c.self.inside.lists c.self.inside.count c.self.inside.accesses.items c.args.access k.agrees (c.in_default.ensures c.self.inside.accesses.items k.agrees k.objects k.ends p) in
    let small = depth_small c.self.inside.lists c.self.inside.count c.self.inside.accesses.items c.args.access c.self.inside.ends k.limits k.agrees some k.ends in
    omega arith

pub invariant_of-self-2 : goal.invariant_of-self-2
invariant_of-self-2 c =
    let k = c.self.invariant in
    let p = place_is c.args.access c.self.inside.accesses.items c.self.inside.objects.names.keys c.object.result c.place-place.result c.place-place.ensures c.object.ensures k.objects.names in
    let f : FitsAccess c.self.inside.lists c.self.inside.count c.self.inside.accesses.items c.make_room.new.objects c.place-place.result c.args.access = (record {
      few = k.limits.few_lists;
      agrees = still_agrees c.self.inside.lists c.self.inside.count c.self.inside.accesses.items c.args.access k.agrees (c.in_default.ensures c.self.inside.accesses.items k.agrees k.objects k.ends p);
      objects = c.make_room.ensures.kept c.self.inside.lists c.self.inside.accesses.items k.objects;
      place = p;
      room = named_room c.self.inside.accesses.items c.args.access c.place-place.result c.make_room.new.objects.room p
          (λ q. let h = c.in-Ok.ensures.object_room q in let same : length c.make_room.new.objects.names.keys ≡ length (named_objects c.self.inside.accesses.items) = ap (length {A = ℕ}) (c.make_room.ensures.kept c.self.inside.lists c.self.inside.accesses.items k.objects).names in omega arith)
          (omega (arith, k.object_room, c.make_room.ensures.no_less));
    }) in
    let pushed : c.push_reserved.new.self.items ≡ c.self.inside.accesses.items ++ c.args.access ∷ [] = c.push_reserved.ensures.items ∙ ap (λ xs. xs ++ c.args.access ∷ []) c.make_room.ensures.accesses in
    let same = c.note.ensures.same_room in
    let left : length (named_objects (c.self.inside.accesses.items ++ c.args.access ∷ [])) + c.spare_after-self-inside.result ≤ c.make_room.new.objects.room =
    subst (λ n. length (named_objects (c.self.inside.accesses.items ++ c.args.access ∷ [])) + n ≤ c.make_room.new.objects.room) (sym c.spare_after-self-inside.ensures)
    (spare_room c.self.inside.accesses.items c.args.access c.place-place.result c.self.inside.spare_objects c.make_room.new.objects.room p f.room (omega (arith, k.object_room, c.make_room.ensures.no_less))) in
    kept_pushed c.self.inside.lists c.self.inside.count _ _ _ c.self.inside.accesses.items c.push_reserved.new.self.items c.args.access c.note.new.self c.note-2.new.self k.limits pushed f.agrees
    (c.note.ensures.notes c.self.inside.lists c.self.inside.count c.self.inside.accesses.items f) (c.note-2.ensures c.self.inside.lists c.self.inside.accesses.items k.ends) c.note.ensures.room
    (subst (λ r. length (named_objects (c.self.inside.accesses.items ++ c.args.access ∷ [])) + c.spare_after-self-inside.result ≤ r) (sym same) left)
    (omega (arith, k.access_room, c.make_room.ensures.capacity, c.in-Ok.ensures.access_room, c.push_reserved.ensures.capacity, c.saturating_sub-self-inside.ensures, c.make_room.new.accesses.ok.0, ap (length {A = Access}) c.make_room.ensures.accesses))

pub returns-clause-ok : goal.returns-clause-ok
returns-clause-ok c =
    let k = c.self.invariant in
    let p = place_is c.args.access c.self.inside.accesses.items c.self.inside.objects.names.keys c.object.result c.place-place.result c.place-place.ensures c.object.ensures k.objects.names in
    one_more c.args.self.now c.self.inside.lists c.self.inside.count c.self.inside.spare_objects c.self.inside.spare_accesses c.spare_after-self-inside.result c.saturating_sub-self-inside.result c.self.inside.accesses.items c.push_reserved.new.self.items c.args.access c.place-place.result c.self.view_is
    (c.push_reserved.ensures.items ∙ ap (λ xs. xs ++ c.args.access ∷ []) c.make_room.ensures.accesses) p c.spare_after-self-inside.ensures c.saturating_sub-self-inside.ensures

pub returns-clause-agrees : goal.returns-clause-agrees
returns-clause-agrees c = (invariant_of-self-2 c).agrees
