-- A log that a restart can take up whole stays such behind a record, where a Commit with a list is the first of its transaction and names nodes that some run may have.
use Rattle.qs_world_refine.proofs.Words.{◌≡◌, ℕ, ◌&&◌, ◌||◌, ◌++◌, not, Bool, true, false, List, [], ◌∷◌, fold, refl, ◌∙◌, subst, arith, if◌then◌else◌, filter, list_all, list_any, nat_tests, list_all-append, same_tid, NodeNo, Tid, listed, with_listed, Nodes, Recovery, Untold, ended, is_untold_of, NodeValue, Participant, is_in_run, is_whole_log, names_node, node_no, where_so, and_from}
use Rattle.qs_engage.specs.Nodes.{all_nodes, has_node}
use Rattle.qs_world.specs.Openings.{names_nodes, is_commit_of_other, are_once}
use Rattle.qs_world.specs.Openings as openings
use Rattle.qs_world_refine.proofs.NodeLists.{listed_within}
use Rattle.qs_world_refine.proofs.SoundKnown.{same_is}
use Rattle.qs_world_refine.proofs.SoundParts.{and_both}

-- ---- fewer Commits wait

module _ (p q : Untold → Bool) where
  fewer_all : (commits : List Untold) → list_all q commits ≡ true → list_all q (filter p commits) ≡ true
  fewer_all [] all = refl
  fewer_all (c ∷ commits) all = by (p c) (and_both (q c) (list_all q commits) all).0 (fewer_all commits (and_both (q c) (list_all q commits) all).1)
    where
      by : (b : Bool) → q c ≡ true → list_all q (filter p commits) ≡ true → list_all q (if b then c ∷ filter p commits else filter p commits) ≡ true
      by true its more = and_from (q c) (list_all q (filter p commits)) its more
      by false its more = more

fewer_once : (p : Untold → Bool) (commits : List Untold) → are_once commits ≡ true → are_once (filter p commits) ≡ true
fewer_once p [] once = refl
fewer_once p (c ∷ commits) once =
    let both : (list_all (is_commit_of_other c.tid) commits ≡ true) × (are_once commits ≡ true) = and_both (list_all (is_commit_of_other c.tid) commits) (are_once commits) once in
    by (p c) (fewer_all p (is_commit_of_other c.tid) commits both.0) (fewer_once p commits both.1)
  where
    by : (b : Bool) → list_all (is_commit_of_other c.tid) (filter p commits) ≡ true → are_once (filter p commits) ≡ true → are_once (if b then c ∷ filter p commits else filter p commits) ≡ true
    by true apart more = and_from (list_all (is_commit_of_other c.tid) (filter p commits)) (are_once (filter p commits)) apart more
    by false apart more = more

pub whole_ended : (tid : Tid) (said : Recovery) → is_whole_log said ≡ true → is_whole_log (ended tid said) ≡ true
whole_ended tid said whole =
    let both : (list_all names_nodes said.untold ≡ true) × (are_once said.untold ≡ true) = and_both (list_all names_nodes said.untold) (are_once said.untold) whole in
    and_from (list_all names_nodes (ended tid said).untold) (are_once (ended tid said).untold) (fewer_all (λ commit. not (is_untold_of tid commit)) names_nodes said.untold both.0) (fewer_once (λ commit. not (is_untold_of tid commit)) said.untold both.1)

-- ---- one more waits

module _ (tid : Tid) (told : List NodeNo) where
  abbrev pub last : Untold
  last = record { tid = tid; told = told }

  -- it is of another transaction than those that wait
  other_last : (c : Untold) → is_untold_of tid c ≡ false → is_commit_of_other c.tid last ≡ true
  other_last c apart = by (same_tid tid c.tid) refl
    where
      own : (t : Tid) → same_tid t t ≡ true
      own t = grind (arith, nat_tests)

      by : (b : Bool) → same_tid tid c.tid ≡ b → not b ≡ true
      by false off = refl
      by true same = absurd (
          let its : same_tid c.tid tid ≡ true = subst (λ (u : Tid). same_tid u tid ≡ true) (same_is tid c.tid same) (own tid) in cc (its, apart))

  once_last : (commits : List Untold) → list_any (is_untold_of tid) commits ≡ false → are_once commits ≡ true → are_once (commits ++ last ∷ []) ≡ true
  once_last [] none once = refl
  once_last (c ∷ commits) none once = by (is_untold_of tid c) refl (list_any (is_untold_of tid) commits) refl none (λ more. once_last commits more (and_both (list_all (is_commit_of_other c.tid) commits) (are_once commits) once).1)
    where
      both : (list_all (is_commit_of_other c.tid) commits ≡ true) × (are_once commits ≡ true)
      both = and_both (list_all (is_commit_of_other c.tid) commits) (are_once commits) once

      by : (a : Bool) → is_untold_of tid c ≡ a → (b : Bool) → list_any (is_untold_of tid) commits ≡ b → (a || b) ≡ false → (list_any (is_untold_of tid) commits ≡ false → are_once (commits ++ last ∷ []) ≡ true)
          → (list_all (is_commit_of_other c.tid) (commits ++ last ∷ []) && are_once (commits ++ last ∷ [])) ≡ true
      by true its b more none rest = absurd (cc (none))
      by false its true more none rest = absurd (cc (none))
      by false its false more none rest = and_from (list_all (is_commit_of_other c.tid) (commits ++ last ∷ [])) (are_once (commits ++ last ∷ []))
          (list_all-append (is_commit_of_other c.tid) commits (last ∷ []) ∙ and_from (list_all (is_commit_of_other c.tid) commits) (is_commit_of_other c.tid last && true) both.0 (and_from (is_commit_of_other c.tid last) true (other_last c its) refl))
          (rest more)

  pub whole_listed : (said : Recovery) → list_all (is_in_run 16) told ≡ true → list_any (is_untold_of tid) said.untold ≡ false → is_whole_log said ≡ true
      → (list_all names_nodes (said.untold ++ last ∷ []) && are_once (said.untold ++ last ∷ [])) ≡ true
  whole_listed said run none whole =
      let both : (list_all names_nodes said.untold ≡ true) × (are_once said.untold ≡ true) = and_both (list_all names_nodes said.untold) (are_once said.untold) whole in
      and_from (list_all names_nodes (said.untold ++ last ∷ [])) (are_once (said.untold ++ last ∷ []))
      (list_all-append names_nodes said.untold (last ∷ []) ∙ and_from (list_all names_nodes said.untold) (names_nodes last && true) both.0 (and_from (names_nodes last) true run refl))
      (once_last said.untold none both.1)

-- ---- whom a set names

module _ (nodes : Nodes) (p : NodeNo → Bool) where
  all_listed : (list so_far : List NodeNo) → list_all (λ node. where_so (has_node nodes node) (p node)) list ≡ true → list_all p so_far ≡ true → list_all p (fold (with_listed nodes) so_far list) ≡ true
  all_listed [] so_far each before = before
  all_listed (node ∷ list) so_far each before = all_listed list (with_listed nodes so_far node) both.1 (by (has_node nodes node) both.0)
    where
      both : (where_so (has_node nodes node) (p node) ≡ true) × (list_all (λ node. where_so (has_node nodes node) (p node)) list ≡ true)
      both = and_both (where_so (has_node nodes node) (p node)) (list_all (λ node. where_so (has_node nodes node) (p node)) list) each

      by : (b : Bool) → where_so b (p node) ≡ true → list_all p (if b then so_far ++ node ∷ [] else so_far) ≡ true
      by true its = list_all-append p so_far (node ∷ []) ∙ and_from (list_all p so_far) (p node && true) before (and_from (p node) true its refl)
      by false its = before

pub told_nodes : (part : Participant) → list_all (is_in_run 16) (listed part.told) ≡ true
unfolding all_nodes
told_nodes part = all_listed part.told (is_in_run 16) all_nodes [] (each all_nodes refl) refl
  where
    so : (b c : Bool) → c ≡ true → where_so b c ≡ true
    so true c is = is
    so false c is = refl

    each : (list : List NodeNo) → list_all (is_in_run 16) list ≡ true → list_all (λ n. where_so (has_node part.told n) (is_in_run 16 n)) list ≡ true
    each [] all = refl
    each (n ∷ list) all =
        let both : (is_in_run 16 n ≡ true) × (list_all (is_in_run 16) list ≡ true) = and_both (is_in_run 16 n) (list_all (is_in_run 16) list) all in
        and_from (where_so (has_node part.told n) (is_in_run 16 n)) (list_all (λ n. where_so (has_node part.told n) (is_in_run 16 n)) list) (so (has_node part.told n) (is_in_run 16 n) both.0) (each list both.1)

-- whom a set lacks its list does not name
pub names_others : (nodes : Nodes) (node : NodeNo) → not (has_node nodes node) ≡ true → not (openings.has_node (listed nodes) node) ≡ true
names_others nodes node lacks = by (names_node (listed nodes) (node_no node.0)) refl
  where
    by : (b : Bool) → names_node (listed nodes) (node_no node.0) ≡ b → not b ≡ true
    by false off = refl
    by true on = absurd (let has : has_node nodes node ≡ true = (listed_within nodes node.0 on).1 in let off : not true ≡ true = subst (λ (b : Bool). not b ≡ true) has lacks in cc (off))
