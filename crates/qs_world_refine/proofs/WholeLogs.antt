-- A log in which of each transaction one Commit waits for its End, and names nodes that some run may have, is taken up whole.
use Rattle.qs_world_refine.proofs.Words.{◌≡◌, ℕ, ◌<◌, ◌||◌, not, Bool, true, false, List, [], ◌∷◌, fold, refl, sym, subst, ◌∙◌, arith, if◌then◌else◌, filter, flat_map, list_all, list_any, nat_tests, list_any-append, same_tid, NodeNo, Tid, same_node, Untold, is_untold_of, is_in_run, names_node, node_no, later_list, not-true, or_from}
use Rattle.qs_world.specs.Openings.{names_nodes, is_commit_of_other, are_once}
use Rattle.qs_world_refine.specs.EveryRun.{WholeTaken}
use Rattle.qs_world_refine.proofs.NodeLists.{joined_named, unlisted}
use Rattle.qs_world_refine.proofs.SoundKnown.{same_is}
use Rattle.qs_world_refine.proofs.SoundParts.{and_both}

-- whom a list of such nodes names is one
named_low : (m : ℕ) (nodes : List NodeNo) → list_all (is_in_run 16) nodes ≡ true → names_node nodes (node_no m) ≡ true → m < 16
named_low m [] all names = absurd (cc (names))
named_low m (node ∷ nodes) all names = by (same_node (node_no m) node) refl names (named_low m nodes both.1)
  where
    both : (is_in_run 16 node ≡ true) × (list_all (is_in_run 16) nodes ≡ true)
    both = and_both (is_in_run 16 node) (list_all (is_in_run 16) nodes) all

    by : (b : Bool) → same_node (node_no m) node ≡ b → (b || names_node nodes (node_no m)) ≡ true → (names_node nodes (node_no m) ≡ true → m < 16) → m < 16
    by true same so more = grind (arith, nat_tests, same, both.0)
    by false apart so more = more so

module _ (tid : Tid) where
  -- behind a Commit of another transaction, or none
  none_of : (u : Tid) → same_tid u tid ≡ true → (commits : List Untold) → list_all (is_commit_of_other u) commits ≡ true → list_any (is_untold_of tid) commits ≡ false
  none_of u same [] all = refl
  none_of u same (c ∷ commits) all =
      let both : (is_commit_of_other u c ≡ true) × (list_all (is_commit_of_other u) commits ≡ true) = and_both (is_commit_of_other u c) (list_all (is_commit_of_other u) commits) all in
      or_from (is_untold_of tid c) (list_any (is_untold_of tid) commits) (not-true (is_untold_of tid c) (subst (λ (k : Tid). not (is_untold_of k c) ≡ true) (same_is u tid same) both.0)) (none_of u same commits both.1)

  list_stays : (commits : List Untold) (told : List NodeNo) → list_any (is_untold_of tid) commits ≡ false → fold (later_list tid) told commits ≡ told
  list_stays [] told none = refl
  list_stays (c ∷ commits) told none = by (is_untold_of tid c) (list_any (is_untold_of tid) commits) none (list_stays commits told)
    where
      by : (a b : Bool) → (a || b) ≡ false → (b ≡ false → fold (later_list tid) told commits ≡ told) → fold (later_list tid) (if a then c.told else told) commits ≡ told
      by true b none more = absurd (cc (none))
      by false b none more = more none

  once_named : (m : ℕ) (commits : List Untold) (before : List NodeNo) → list_all names_nodes commits ≡ true → are_once commits ≡ true
      → names_node (flat_map (λ (commit : Untold). commit.told) (filter (is_untold_of tid) commits)) (node_no m) ≡ true → (names_node (fold (later_list tid) before commits) (node_no m) ≡ true) × (m < 16)
  once_named m [] before all once names = absurd (cc (names))
  once_named m (c ∷ commits) before all once names = by (is_untold_of tid c) refl (λ so. once_named m commits before
      (and_both (names_nodes c) (list_all names_nodes commits) all).1 (and_both (list_all (is_commit_of_other c.tid) commits) (are_once commits) once).1 so) names
    where
      run : (names_nodes c ≡ true) × (list_all names_nodes commits ≡ true)
      run = and_both (names_nodes c) (list_all names_nodes commits) all

      alone : (list_all (is_commit_of_other c.tid) commits ≡ true) × (are_once commits ≡ true)
      alone = and_both (list_all (is_commit_of_other c.tid) commits) (are_once commits) once

      first : (a b : Bool) → b ≡ false → (a || b) ≡ true → a ≡ true
      first true b off is = refl
      first false b off is = absurd (cc (off, is))

      by : (b : Bool) → is_untold_of tid c ≡ b
          → (names_node (flat_map (λ (commit : Untold). commit.told) (filter (is_untold_of tid) commits)) (node_no m) ≡ true → (names_node (fold (later_list tid) before commits) (node_no m) ≡ true) × (m < 16))
          → names_node (flat_map (λ (commit : Untold). commit.told) (if b then c ∷ filter (is_untold_of tid) commits else filter (is_untold_of tid) commits)) (node_no m) ≡ true
          → (names_node (fold (later_list tid) (if b then c.told else before) commits) (node_no m) ≡ true) × (m < 16)
      by true its more so =
          let none : list_any (is_untold_of tid) commits ≡ false = none_of c.tid its commits alone.0 in
          let here : names_node c.told (node_no m) ≡ true = first (names_node c.told (node_no m)) _ (unlisted tid commits none (node_no m)) (sym (list_any-append (same_node (node_no m)) c.told _) ∙ so) in
          (subst (λ (l : List NodeNo). names_node l (node_no m) ≡ true) (sym (list_stays commits c.told none)) here, named_low m c.told run.0 here)
      by false its more so = more so

pub whole_taken : WholeTaken
whole_taken said whole tid m names =
    let both : (list_all names_nodes said.untold ≡ true) × (are_once said.untold ≡ true) = and_both (list_all names_nodes said.untold) (are_once said.untold) whole in
    let named = once_named tid m said.untold [] both.0 both.1 names in
    joined_named (fold (later_list tid) [] said.untold) m named.1 named.0
