-- What members are and declare, of lists that were read.
use Rattle.std.proofs.Common.{◌≡◌, ◌↔◌, ◌⊎◌, inl, inr, ⊎_elim, refl, sym, ap, subst, ℕ, List, [], Some, Contains, codes}
use Rattle.json.specs.Json.{Json}
use Rattle.json.proofs.Found.{Some_inj}
use Rattle.guppy_declared.specs.Declares.{text_in, items_in, AsksForPath, IsMember, Declares}
use Rattle.guppy_declared.specs.Grown.{IsGrown}
use Rattle.guppy_declared.specs.Parts.{IsMemberAt, IsPairAt, IsPairAskedBy, IsPairOf}
use Rattle.guppy_declared.proofs.Growing.{contains_none}

module _ (d : Json) where
  -- no packages, no members
  pub members_none : items_in (codes "packages") d ≡ [] → (m : Json × List ℕ) → Contains [] m ↔ IsMember d m.0 m.1
  members_none none m = (
    λ there. absurd (contains_none m there),
    λ is. absurd (contains_none m.0 (subst (λ ps. Contains ps m.0) none is.told)),
  )

  module _ (members : List (Json × List ℕ)) where
    -- those that were read of the packages are the members
    pub members_are : (packages : List Json) → packages ≡ items_in (codes "packages") d → IsGrown (IsMemberAt d) packages [] members
        → (m : Json × List ℕ) → Contains members m ↔ IsMember d m.0 m.1
    members_are packages same grown m = (
      λ there. ⊎_elim (λ none. absurd (contains_none m none))
          (λ one. record {
            told = subst (λ p. Contains (items_in (codes "packages") d) p) (sym one.2.0) (subst (λ ps. Contains ps one.0) same one.1);
            id_is = subst (λ p. text_in (codes "id") p ≡ Some m.1) (sym one.2.0) one.2.1;
            listed = one.2.2;
          }) ((grown m).0 there),
      λ is. (grown m).1 (inr (m.0, subst (λ ps. Contains ps m.0) (sym same) is.told, (refl, is.id_is, is.listed))),
    )

    -- the pairs that were read are those of members of which the one declares the other
    pub declared_are : ((m : Json × List ℕ) → Contains members m ↔ IsMember d m.0 m.1) → (pairs : List (List ℕ × List ℕ))
        → IsGrown (IsPairOf members) members [] pairs → (from to : List ℕ) → Contains pairs (from, to) ↔ Declares d from to
    declared_are are pairs grown from to = (
      λ there. ⊎_elim (λ none. absurd (contains_none (from, to) none))
          (λ one. let m = one.0 in
          let asked = one.2.2 in
          let other = asked.2.0 in
          let same = asked.2.2.1 in
          record {
            member = m.0;
            other = other.0;
            is_from = subst (IsMember d m.0) (sym (ap (λ p. p.0) same)) ((are m).0 one.1);
            is_to = subst (IsMember d other.0) (sym (ap (λ p. p.1) same)) ((are other).0 asked.2.1);
            asks = record {
              dependency = one.2.0;
              folder = asked.0;
              told = one.2.1;
              asks = asked.1;
              lies = asked.2.2.0;
            };
          }) ((grown (from, to)).0 there),
      λ is. (grown (from, to)).1 (inr (
        (is.member, from),
        (are (is.member, from)).1 is.is_from,
        (is.asks.dependency, is.asks.told, (is.asks.folder, is.asks.asks, ((is.other, to), (are (is.other, to)).1 is.is_to, (is.asks.lies, refl)))),
      )),
    )

-- a dependency that is asked for by a path adds the pairs of the members in this folder
pub step_asked : (members : List (Json × List ℕ)) (from folder : List ℕ) (dependency : Json) (mid new : List (List ℕ × List ℕ))
    → ((path : List ℕ) → (Some folder ≡ Some path) ↔ AsksForPath dependency path) → IsGrown (IsPairAt from folder) members mid new
    → (y : List ℕ × List ℕ) → Contains new y ↔ (Contains mid y ⊎ IsPairAskedBy members from dependency y)
step_asked members from folder dependency mid new asked grown y = (
  λ there. ⊎_elim (λ was. inl was) (λ one. inr (folder, (asked folder).0 refl, one)) ((grown y).0 there),
  λ either. ⊎_elim (λ was. (grown y).1 (inl was))
      (λ said. let same : said.0 ≡ folder = sym (Some_inj folder said.0 ((asked said.0).1 said.1)) in
      (grown y).1 (inr (subst (λ f. (member : Json × List ℕ) × Contains members member × IsPairAt from f member y) same said.2))) either,
)
