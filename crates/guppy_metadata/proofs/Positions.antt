-- Packages by the positions of their IDs.
use Rattle.std.proofs.Common.{◌≡◌, ◌∙◌, ℕ, suc, Bool, true, false, cond, List, [], ◌∷◌, ◌++◌, Option, None, Some, filter, map, length, slice_get, get_or, ◌<◌, ◌≤◌, IfSome, option_map, option_and_then, refl, sym, ap, subst}
use Rattle.std.specs.Prelude.{MatchOption, String}
use Rattle.std.specs.declared.alloc.Global.{Global}
use Rattle.std.specs.Borrow.{Bor}
use Rattle.std.specs.List.{last_or}
use Rattle.std.specs.Option.{option_copied, option_or}
use Rattle.std.specs.Str.{bytes_eq}
use Rattle.std.proofs.lemmas.Option.{slice_get_past, slice_get_read}
use Rattle.indexmap.specs.IndexMap.{IndexMap, get_by_text}
use Rattle.guppy_metadata.specs.declared.types.Package.{Package}
use Rattle.guppy_metadata.specs.Package.{last_position, with_id, ArePositions}

-- the position where one more ID is behind the others
pub position_behind : (id : List ℕ) (ids : List (List ℕ)) (next : List ℕ) → last_position id (ids ++ next ∷ []) ≡ cond (bytes_eq next id) (Some (length ids)) (last_position id ids)
position_behind id [] next = refl
position_behind id (other ∷ ids) next = by (bytes_eq next id) (position_behind id ids next)
  where
    own : Option ℕ
    own = cond (bytes_eq other id) (Some 0) None

    by : (same : Bool) → last_position id (ids ++ next ∷ []) ≡ cond same (Some (length ids)) (last_position id ids)
        → option_or (option_map suc (last_position id (ids ++ next ∷ []))) own ≡ cond same (Some (length (other ∷ ids))) (option_or (option_map suc (last_position id ids)) own)
    by true is = ap (λ o. option_or (option_map suc o) own) is
    by false is = ap (λ o. option_or (option_map suc o) own) is

-- whether packages have an ID, and which is the last one that has it
module _ (id : List ℕ) where
  abbrev named : Package → Bool
  named p = bytes_eq p.id.now id

  abbrev position : List Package → Option ℕ
  position packages = last_position id (map (λ p. p.id.now) packages)

  abbrev IsLast : List Package → ℕ → Type 0
  IsLast packages k = (p : Package) × (slice_get packages k ≡ Some p) × ((o : Option Package) → last_or o (filter named packages) ≡ Some p)

  last_is : (packages : List Package) → MatchOption (position packages) (filter named packages ≡ []) (IsLast packages)
  last_is [] = refl
  last_is (p ∷ packages) = by (position packages) refl (named p) refl (last_is packages)
    where
      others : List Package
      others = filter named packages

      own : Bool → Option ℕ
      own here = cond here (Some 0) None

      kept : (here : Bool) → named p ≡ here → (o : Option Package) → last_or o (filter named (p ∷ packages)) ≡ last_or o (cond here (p ∷ others) others)
      kept here is o = ap (λ b. last_or o (cond b (p ∷ others) others)) is

      placed : (behind : Option ℕ) (here : Bool) → position packages ≡ behind → named p ≡ here → position (p ∷ packages) ≡ option_or (option_map suc behind) (own here)
      placed behind here is named_so = ap (λ o. option_or (option_map suc o) (own (named p))) is ∙ ap (λ b. option_or (option_map suc behind) (own b)) named_so

      said : (o : Option ℕ) → position (p ∷ packages) ≡ o → MatchOption o (filter named (p ∷ packages) ≡ []) (IsLast (p ∷ packages)) → MatchOption (position (p ∷ packages)) (filter named (p ∷ packages) ≡ []) (IsLast (p ∷ packages))
      said o is holds = subst (λ o. MatchOption o (filter named (p ∷ packages) ≡ []) (IsLast (p ∷ packages))) (sym is) holds

      either : (here : Bool) (k : ℕ) (found : IsLast packages k) (o : Option Package) → last_or o (cond here (p ∷ others) others) ≡ Some found.0
      either true k found o = found.2 (Some p)
      either false k found o = found.2 o

      by : (behind : Option ℕ) → position packages ≡ behind → (here : Bool) → named p ≡ here → MatchOption (position packages) (others ≡ []) (IsLast packages)
          → MatchOption (position (p ∷ packages)) (filter named (p ∷ packages) ≡ []) (IsLast (p ∷ packages))
      by None is true here last =
          let none : others ≡ [] = subst (λ o. MatchOption o (others ≡ []) (IsLast packages)) is last in
          said (Some 0) (placed None true is here) (p, refl, λ o. kept true here o ∙ ap (last_or (Some p)) none)
      by None is false here last =
          let none : others ≡ [] = subst (λ o. MatchOption o (others ≡ []) (IsLast packages)) is last in
          said None (placed None false is here) (ap (λ b. cond b (p ∷ others) others) here ∙ none)
      by (Some k) is here named_so last =
          let found : IsLast packages k = subst (λ o. MatchOption o (others ≡ []) (IsLast packages)) is last in
          said (Some (suc k)) (placed (Some k) here is named_so) (found.0, found.1, λ o. kept here named_so o ∙ either here k found o)

  -- the package at the position is the last one with the ID
  at_last : (packages : List Package) → option_and_then (slice_get packages) (last_position id (map (λ p. p.id.now) packages)) ≡ with_id id packages
  at_last packages = by (position packages) (last_is packages)
    where
      by : (o : Option ℕ) → MatchOption o (filter named packages ≡ []) (IsLast packages) → option_and_then (slice_get packages) o ≡ last_or None (filter named packages)
      by None none = sym (ap (last_or None) none)
      by (Some k) last = last.1 ∙ sym (last.2 None)

-- the package that is found behind an ID is the last one with it
pub found_at : {S : Type 0} (packages : List Package) (positions : IndexMap (String Global) ℕ S) → ArePositions packages positions → (id : List ℕ)
    → option_and_then (slice_get packages) (get_by_text positions id) ≡ with_id id packages
found_at packages positions are id = ap (option_and_then (slice_get packages)) (are id) ∙ at_last id packages

-- what is read at a place is what stands there
pub read_at : {A : Type 0} (items : List A) (k : ℕ) (found : Option (Bor A)) (R : Bor A → Type 0) → IfSome found (λ x. x.now ≡ get_or items k x.now)
    → MatchOption found (length items ≤ k) (λ x. (k < length items) × R x) → option_copied found ≡ slice_get items k
read_at items k None R is past = sym (slice_get_past items k past)
read_at items k (Some x) R is low = sym (slice_get_read items (length items) k x.now refl low.0 is)
