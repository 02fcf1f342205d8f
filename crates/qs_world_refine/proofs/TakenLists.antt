-- A node that opens over its log takes up the last Commit of each transaction, and is to tell those that it names.
use Rattle.qs_world_refine.proofs.Words.{◌≡◌, ℕ, ◌==◌, ◌||◌, not, Bool, true, false, List, [], ◌∷◌, ◌++◌, fold, map, length, Option, Some, None, refl, sym, ap, subst, ◌∙◌, arith, if◌then◌else◌, Global, filter, list_all, list_any, nat_tests, fold-append, tid_cmp, NodeNo, Tid, same_node, no_nodes, Nodes, Kept, Record, Recovery, Untold, commit_of, in_doubt, is_untold_of, names_transaction, nothing_said, recovery, untold, new_manager, opened_manager, opened_node, recovered_as, recovered_of, take_up}
use Rattle.qs_world_refine.proofs.Words.{Setting, committed_before, Manager, Participant, is_untold, names_node, node_no, AreListed, later_list, last_list, tell_at, tell_of_part, are_left_open, list_of}
use Rattle.qs_engage.specs.Nodes.{has_node}
use Rattle.qs_tm.specs.Manager as tm
use Rattle.qs_world_refine.specs.Lists.{AreTaken}
use Rattle.qs_world_refine.specs.SaidLaws.{is_open_vote}
use Rattle.qs_world_refine.proofs.Maps.{lookup_put}
use Rattle.qs_world_refine.proofs.NodeLists.{unlisted}
use Rattle.qs_world_refine.proofs.RisenFaces.{lists_from}
use Rattle.qs_world_refine.proofs.SaidMoves.{untold_named}
use Rattle.qs_world_refine.proofs.SoundKnown.{same_is}
use Rattle.qs_world_refine.proofs.SoundParts.{and_both}
use Rattle.qs_world_refine.proofs.StartLogs.{taken_apart}
use Rattle.qs_world_refine.proofs.TakingUp.{has_list, node_taken, nodes_taken}

module _ (tid : Tid) (home : Bool) (numbered : names_transaction tid ≡ true) where
  abbrev of_names : List Untold → List Record
  of_names commits = map commit_of (filter (λ (commit : Untold). names_transaction commit.tid) commits)

  -- it is known as committed, with that list
  abbrev Lists : List NodeNo → Manager → Type 0
  Lists told m = tm.part_of tid m ≡ Some (committed_before home told)

  module _ (c : Untold) (m : Manager) (here : tm.is_home tid m ≡ home) where
    home_still : tm.is_home tid (take_up m (commit_of c)) ≡ home
    home_still = ap (λ (k : NodeNo). same_node tid.home k) (node_taken tid (commit_of c) m) ∙ here

    listed_now : is_untold_of tid c ≡ true → has_list tid c ≡ true → Lists c.told (take_up m (commit_of c))
    listed_now same some = put (length c.told == 0) some
      where
        put : (b : Bool) → not b ≡ true → tm.part_of tid (if b then m else tm.put_part c.tid (committed_before (tm.is_home c.tid m) c.told) m) ≡ Some (committed_before home c.told)
        put true so = absurd (cc (so))
        put false so = rw (same_is c.tid tid same, here) (lookup_put tid_cmp tid (committed_before home c.told) (grind (arith, nat_tests)) m.known)

    other_still : is_untold_of tid c ≡ false → tm.part_of tid (take_up m (commit_of c)) ≡ tm.part_of tid m
    other_still apart = taken_apart tid (commit_of c) m (grind (arith, nat_tests, apart))

  named_it : (c : Untold) → is_untold_of tid c ≡ true → names_transaction c.tid ≡ true
  named_it c same = subst (λ (t : Tid). names_transaction t ≡ true) (sym (same_is c.tid tid same)) numbered

  -- with each Commit of it its list is the later one
  later_taken : (commits : List Untold) (told : List NodeNo) (m : Manager) → list_all (has_list tid) commits ≡ true → tm.is_home tid m ≡ home → Lists told m → Lists (fold (later_list tid) told commits) (fold take_up m (of_names commits))
  later_taken [] told m all here is = is
  later_taken (c ∷ commits) told m all here is = by (is_untold_of tid c) refl (names_transaction c.tid) refl (λ told m here is. later_taken commits told m both.1 here is)
    where
      both : (has_list tid c ≡ true) × (list_all (has_list tid) commits ≡ true)
      both = and_both (has_list tid c) (list_all (has_list tid) commits) all

      by : (a : Bool) → is_untold_of tid c ≡ a → (b : Bool) → names_transaction c.tid ≡ b → ((told : List NodeNo) (m : Manager) → tm.is_home tid m ≡ home → Lists told m → Lists (fold (later_list tid) told commits) (fold take_up m (of_names commits)))
          → Lists (fold (later_list tid) (if a then c.told else told) commits) (fold take_up m (map commit_of (if b then c ∷ filter (λ (commit : Untold). names_transaction commit.tid) commits else filter (λ (commit : Untold). names_transaction commit.tid) commits)))
      by true same true on more = more c.told (take_up m (commit_of c)) (home_still c m here) (listed_now c m here same both.0)
      by true same false off more = absurd (let on : names_transaction c.tid ≡ true = named_it c same in cc (on, off))
      by false apart true on more = more told (take_up m (commit_of c)) (home_still c m here) (other_still c m here apart ∙ is)
      by false apart false off more = more told m here is

  -- where there is one
  first_taken : (commits : List Untold) (m : Manager) → list_all (has_list tid) commits ≡ true → tm.is_home tid m ≡ home → list_any (is_untold_of tid) commits ≡ true → Lists (fold (later_list tid) [] commits) (fold take_up m (of_names commits))
  first_taken [] m all here some = absurd (cc (some))
  first_taken (c ∷ commits) m all here some = by (is_untold_of tid c) refl (names_transaction c.tid) refl some (λ m here some. first_taken commits m both.1 here some)
    where
      both : (has_list tid c ≡ true) × (list_all (has_list tid) commits ≡ true)
      both = and_both (has_list tid c) (list_all (has_list tid) commits) all

      by : (a : Bool) → is_untold_of tid c ≡ a → (b : Bool) → names_transaction c.tid ≡ b → (a || list_any (is_untold_of tid) commits) ≡ true
          → ((m : Manager) → tm.is_home tid m ≡ home → list_any (is_untold_of tid) commits ≡ true → Lists (fold (later_list tid) [] commits) (fold take_up m (of_names commits)))
          → Lists (fold (later_list tid) (if a then c.told else []) commits) (fold take_up m (map commit_of (if b then c ∷ filter (λ (commit : Untold). names_transaction commit.tid) commits else filter (λ (commit : Untold). names_transaction commit.tid) commits)))
      by true same true on some more = later_taken commits c.told (take_up m (commit_of c)) both.1 (home_still c m here) (listed_now c m here same both.0)
      by true same false off some more = absurd (let on : names_transaction c.tid ≡ true = named_it c same in cc (on, off))
      by false apart true on some more = more (take_up m (commit_of c)) (home_still c m here) some
      by false apart false off some more = more m here some

  pub last_taken : (said : Recovery) (m : Manager) → list_all (has_list tid) said.untold ≡ true → tm.is_home tid m ≡ home → list_any (is_untold_of tid) said.untold ≡ true → Lists (last_list tid said) (fold take_up m (in_doubt said ++ untold said))
  last_taken said m all here some = subst (λ (x : Manager). Lists (last_list tid said) x) (sym (fold-append take_up m (in_doubt said) (untold said)))
      (first_taken said.untold (fold take_up m (in_doubt said)) all (ap (λ (k : NodeNo). same_node tid.home k) (nodes_taken tid (in_doubt said) m) ∙ here) some)

-- so whom a Commit names that the log has the node is to tell
pub opened_lists : (alloc : Global) (setting : Setting) (kept : Kept) (log : List Record) → are_left_open (recovery log) ≡ true → AreTaken (recovery log) → AreListed (opened_node alloc setting (recovered_of log) kept) (recovery log)
opened_lists alloc setting kept log unended taken = record { named = λ t m below names. by t m names (list_any (is_untold_of t) (recovery log).untold) refl; taken = taken }
  where
    told_in : Option Participant → Nodes
    told_in o = elim o [ None ↦ no_nodes | Some part ↦ tell_of_part part ]

    by : (t : Tid) (m : ℕ) → names_node (list_of t (recovery log)) (node_no m) ≡ true → (b : Bool) → list_any (is_untold_of t) (recovery log).untold ≡ b → has_node (tell_at t (opened_node alloc setting (recovered_of log) kept)) (node_no m) ≡ true
    by t m names false none = absurd (let off : names_node (list_of t (recovery log)) (node_no m) ≡ false = unlisted t (recovery log).untold none (node_no m) in cc (off, names))
    by t m names true some = subst (λ (s : Nodes). has_node s (node_no m) ≡ true) (sym (ap told_in known)) (taken t m names)
      where
        numbered : names_transaction t ≡ true
        numbered = untold_named (recovery log) unended t (recovery log).untold (and_both (list_all (is_open_vote (recovery log)) (recovery log).prepared) (list_all is_untold (recovery log).untold) unended).1 some

        known : tm.part_of t (opened_manager alloc setting (recovered_as (recovery log))) ≡ Some (committed_before (same_node t.home setting.node) (last_list t (recovery log)))
        known = last_taken t (same_node t.home setting.node) numbered (recovery log) (new_manager alloc setting) (lists_from t log nothing_said refl) refl some
