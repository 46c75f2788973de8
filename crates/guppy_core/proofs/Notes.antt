-- The notes of which links are kept, made link by link.
use Rattle.std.proofs.Common.{◌≡◌, ℕ, ◌+◌, ◌<◌, ◌≤◌, Bool, true, List, length, sym, ap, ◌∙◌, subst, arith, ⊎_elim}
use Rattle.std.specs.Prelude.{Some, slice_get}
use Rattle.std.proofs.Math.ListN.{set}
use Rattle.std.proofs.lemmas.Bool.{cases_eq}
use Rattle.std.proofs.lemmas.List.{get_or-set_same, get_or-set_other}
use Rattle.std.proofs.lemmas.Option.{slice_get_within}
use Rattle.guppy_search.specs.declared.graph_core.link.Link.{Link}
use Rattle.guppy_core.specs.Noted.{note, AreNoted}

module _ {E : Type 0} (keep : E → Bool) (links : List (Link E)) where
  -- the first i links are noted
  abbrev pub AreNotedTo : ℕ → List Bool → Type 0
  AreNotedTo i notes = (n : ℕ) (l : Link E) → n < i → slice_get links n ≡ Some l → note notes n ≡ keep l.edge

  module _ (i : ℕ) (notes : List Bool) (s : AreNotedTo i notes) where
    -- the next link is noted
    pub noted_more : (link : Link E) (b : Bool) → slice_get links i ≡ Some link → b ≡ keep link.edge → i < length notes → AreNotedTo (i + 1) (set notes i b)
    noted_more link b is_link is within n l low found = ⊎_elim
        (λ e.
        let here : slice_get links n ≡ Some link = subst (λ z. slice_get links z ≡ Some link) (sym e) is_link in
        let same : l ≡ link = let f = found in let f' = here in cc in
        subst (λ z. note (set notes i b) z ≡ keep l.edge) (sym e) (get_or-set_same notes i b true within ∙ (is ∙ ap (λ (z : Link E). keep z.edge) (sym same))))
        (λ other. get_or-set_other notes i n b true other ∙ s n l (omega arith) found)
        (cases_eq n i)

    -- all links were taken
    pub noted_last : length links ≤ i → AreNoted keep links notes
    noted_last all n l found = s n l (let low = slice_get_within links n l found in omega arith) found
