-- How many links there are of so many ends, and what is known of these.
use Rattle.std.proofs.Common.{◌≡◌, ◌<◌, ◌≤◌, ◌∙◌, ℕ, Bool, true, false, List, length, map, take, replicate, sym, subst, Result, Ok, Err}
use Rattle.std.proofs.lemmas.List.{length-map, length-replicate, get_or-map}
use Rattle.std.proofs.lemmas.List.Elements.{All-map}
use Rattle.std.specs.List.{take-map}
use Rattle.std.specs.Prelude.{All, OnOk}
use Rattle.guppy_search.specs.Fault.{IsFault}
use Rattle.guppy_search.specs.Links.{EndsBelow, is_unknown}
use Rattle.guppy_search.specs.Pairs.{IsFirstUnknown}
use Rattle.guppy_search.specs.declared.graph_core.graph.GraphFault.TheVariants.{UnknownEnd}
use Rattle.guppy_search.proofs.LinkEnds.{length-between, ends-between, unknown-between}
use Rattle.guppy_flat.specs.declared.flat.Ends.{Ends}
use Rattle.guppy_flat.specs.Flat.{link_of, flagged, plain, AreKnown, AreWithin, IsFirstAstray}

pub length-flagged : (links : List Ends) (flags : List Bool) → length flags ≡ length links → length (flagged links flags) ≡ length links
length-flagged links flags same = length-between (map link_of links) flags (length-map links link_of ∙ sym same) ∙ length-map links link_of

pub length-plain : (links : List Ends) → length (plain links) ≡ length links
length-plain links = length-flagged links (replicate (length links) false) (length-replicate (length links) false)

-- of links whose ends are known, and as many flags
module _ (count : ℕ) (links : List Ends) (flags : List Bool) (same : length flags ≡ length links) (few : count ≤ 4294967295) (few' : length links ≤ 4294967295) where
  few_links : length (flagged links flags) ≤ 4294967295
  few_links = subst (λ n. n ≤ 4294967295) (sym (length-flagged links flags same)) few'

  paired : length (map link_of links) ≡ length flags
  paired = length-map links link_of ∙ sym same

  pub within_flagged : All (AreKnown count) links → AreWithin count (flagged links flags)
  within_flagged known = record {
    few_positions = few;
    few_links = few_links;
    known_ends = ends-between (map link_of links) flags paired count (All-map (EndsBelow count) link_of links known);
  }

  first_unknown : (k : ℕ) → IsFirstAstray count links k → IsFirstUnknown count (map link_of links) k
  first_unknown k first =
      let none : Ends = record { from = 0; to = 0 } in
      record {
        within = subst (λ n. k < n) (sym (length-map links link_of)) first.is_link;
        unknown = λ d. subst (λ l. is_unknown count l ≡ true) (sym (get_or-map link_of links k none d first.is_link)) (first.astray none);
        before = subst (All (EndsBelow count)) (sym (take-map link_of k links)) (All-map (EndsBelow count) link_of (take k links) first.before);
      }

  pub unknown_flagged : (k : ℕ) → IsFirstAstray count links k → IsFault count (flagged links flags) (UnknownEnd k)
  unknown_flagged k first = (few, few_links, unknown-between (map link_of links) flags paired count k (first_unknown k first))

pub holds_anyway : {T E P : Type 0} (r : Result T E) → P → OnOk r P
holds_anyway (Ok x) p = p
holds_anyway (Err e) p = tt
