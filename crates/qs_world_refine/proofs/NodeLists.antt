-- Which nodes a set has that is made of a list, or that goes on; and what a log's Commits name after a record.
use Rattle.qs_world_refine.proofs.Words.{◌≡◌, ℕ, ◌<◌, ◌==◌, ◌&&◌, ◌||◌, not, nat_lt, Bool, true, false, List, [], ◌∷◌, ◌++◌, length, fold, refl, sym, ap, ◌∙◌, arith, if◌then◌else◌, list_any, filter, flat_map, nat_tests, get_or_past, get_or-set_other, fold-append, same_tid, NodeNo, Tid, put_node, no_nodes, joined, listed, union, Nodes, Record, Recovery, Untold, found_record, is_untold_of, names_node, node_no, later_list, last_list, or_right, and_from, and_last, and_first}
use Rattle.qs_engage.specs.Nodes.{all_nodes, has_node}
use Rattle.qs_record.specs.declared.record.Record.TheVariants as records
use Rattle.qs_world_refine.proofs.Arrays.{node_put}
use Rattle.qs_world_refine.proofs.LogFrames.{record_tid}
use Rattle.qs_world_refine.proofs.NodeSets.{all_named, none_past, joined_has, joined_length, list_has}

-- ---- sets

-- a set of sixteen has no other
pub joined_below : (list : List NodeNo) (m : ℕ) → has_node (joined no_nodes list) (node_no m) ≡ true → m < 16
joined_below list m has = by (nat_lt m 16) refl
  where
    by : (b : Bool) → nat_lt m 16 ≡ b → m < 16
    by true below = grind (arith, nat_tests, below)
    by false past = absurd (
        let none : has_node (joined no_nodes list) (node_no m) ≡ false = get_or_past (joined no_nodes list).has m false (rw (joined_length list no_nodes) (grind (arith, nat_tests, past))) in cc (none, has))

pub joined_named : (list : List NodeNo) (m : ℕ) → m < 16 → names_node list (node_no m) ≡ true → has_node (joined no_nodes list) (node_no m) ≡ true
joined_named list m below names = joined_has list no_nodes m (λ is. below) ∙ or_right (has_node no_nodes (node_no m)) (names_node list (node_no m)) names

pub listed_within : (nodes : Nodes) (m : ℕ) → names_node (listed nodes) (node_no m) ≡ true → (m < 16) × (has_node nodes (node_no m) ≡ true)
listed_within nodes m names = by (nat_lt m 16) refl
  where
    its : (names_node all_nodes (node_no m) && has_node nodes (node_no m)) ≡ true
    its = sym (list_has nodes m all_nodes []) ∙ names

    by : (b : Bool) → nat_lt m 16 ≡ b → (m < 16) × (has_node nodes (node_no m) ≡ true)
    by true below = (grind (arith, nat_tests, below), and_last (names_node all_nodes (node_no m)) (has_node nodes (node_no m)) its)
    by false past = absurd (
        let off : names_node all_nodes (node_no m) ≡ false = none_past m (grind (arith, nat_tests, past)) in
        let on : names_node all_nodes (node_no m) ≡ true = and_first (names_node all_nodes (node_no m)) (has_node nodes (node_no m)) its in cc (on, off))

pub listed_names : (nodes : Nodes) (m : ℕ) → m < 16 → has_node nodes (node_no m) ≡ true → names_node (listed nodes) (node_no m) ≡ true
listed_names nodes m below has = list_has nodes m all_nodes [] ∙ and_from (names_node all_nodes (node_no m)) (has_node nodes (node_no m)) (all_named m below) has

-- a set that goes on
pub put_grows : (nodes : Nodes) (node : NodeNo) (m : ℕ) → has_node nodes (node_no m) ≡ true → has_node (put_node nodes node) (node_no m) ≡ true
put_grows nodes node m has = by (nat_lt node.0 (length nodes.has)) refl (m == node.0) refl
  where
    picked : (b : Bool) → (if b then true else has_node nodes (node_no m)) ≡ true
    picked true = refl
    picked false = has

    by : (b : Bool) → nat_lt node.0 (length nodes.has) ≡ b → (c : Bool) → (m == node.0) ≡ c → has_node (put_node nodes node) (node_no m) ≡ true
    by true below c same = node_put node.0 m nodes (grind (arith, nat_tests, below)) ∙ picked (m == node.0)
    by false past true same = absurd (
        let none : has_node nodes (node_no m) ≡ false = get_or_past nodes.has m false (grind (arith, nat_tests, past, same)) in cc (none, has))
    by false past false other = get_or-set_other nodes.has node.0 m true false (λ same. grind (arith, nat_tests, other, same)) ∙ has

-- ---- what the Commits of a log name after a record

module _ (tid : Tid) where
  no_list : (commits : List Untold) → filter (is_untold_of tid) (filter (λ commit. not (is_untold_of tid commit)) commits) ≡ []
  no_list [] = refl
  no_list (c ∷ commits) = by (is_untold_of tid c) refl (no_list commits)
    where
      by : (b : Bool) → is_untold_of tid c ≡ b → filter (is_untold_of tid) (filter (λ commit. not (is_untold_of tid commit)) commits) ≡ []
          → filter (is_untold_of tid) (if not b then c ∷ filter (λ commit. not (is_untold_of tid commit)) commits else filter (λ commit. not (is_untold_of tid commit)) commits) ≡ []
      by true is more = more
      by false is more = rw is more

  -- where none of it waits none is named
  pub unlisted : (commits : List Untold) → list_any (is_untold_of tid) commits ≡ false → (node : NodeNo) → names_node (flat_map (λ (commit : Untold). commit.told) (filter (is_untold_of tid) commits)) node ≡ false
  unlisted [] none node = refl
  unlisted (c ∷ commits) none node = by (is_untold_of tid c) none (unlisted commits)
    where
      by : (b : Bool) → (b || list_any (is_untold_of tid) commits) ≡ false → (list_any (is_untold_of tid) commits ≡ false → (node : NodeNo) → names_node (flat_map (λ (commit : Untold). commit.told) (filter (is_untold_of tid) commits)) node ≡ false)
          → names_node (flat_map (λ (commit : Untold). commit.told) (if b then c ∷ filter (is_untold_of tid) commits else filter (is_untold_of tid) commits)) node ≡ false
      by true none more = absurd (cc (none))
      by false none more = more none node

  -- where they are ended none is named
  pub none_ended : (commits : List Untold) (node : NodeNo) → names_node (flat_map (λ (commit : Untold). commit.told) (filter (is_untold_of tid) (filter (λ commit. not (is_untold_of tid commit)) commits))) node ≡ false
  none_ended commits node = ap (λ (l : List Untold). names_node (flat_map (λ (commit : Untold). commit.told) l) node) (no_list commits)

  names_more : (xs ys : List NodeNo) (node : NodeNo) → names_node (xs ++ ys) node ≡ (names_node xs node || names_node ys node)
  names_more [] ys node = refl
  names_more (x ∷ xs) ys node = by (Rattle.qs_engage.specs.Nodes.same_node node x) (names_more xs ys node)
    where
      by : (b : Bool) → names_node (xs ++ ys) node ≡ (names_node xs node || names_node ys node) → (b || names_node (xs ++ ys) node) ≡ ((b || names_node xs node) || names_node ys node)
      by true more = refl
      by false more = more

  -- one Commit more
  pub names_last : (told : List NodeNo) (commits : List Untold) (node : NodeNo) → names_node (flat_map (λ (commit : Untold). commit.told) (filter (is_untold_of tid) (commits ++ record { tid = tid; told = told } ∷ []))) node
      ≡ (names_node (flat_map (λ (commit : Untold). commit.told) (filter (is_untold_of tid) commits)) node || names_node told node)
  names_last told [] node = picked (same_tid tid tid) (grind (arith, nat_tests))
    where
      end : (xs : List NodeNo) → names_node (xs ++ []) node ≡ names_node xs node
      end [] = refl
      end (x ∷ xs) = ap (λ (b : Bool). Rattle.qs_engage.specs.Nodes.same_node node x || b) (end xs)

      picked : (b : Bool) → b ≡ true → names_node (flat_map (λ (commit : Untold). commit.told) (if b then record { tid = tid; told = told } ∷ [] else [])) node ≡ (false || names_node told node)
      picked true is = end told
      picked false is = absurd (cc (is))
  names_last told (c ∷ commits) node = by (is_untold_of tid c) (names_last told commits node)
    where
      or_more : (a b d : Bool) → (a || (b || d)) ≡ ((a || b) || d)
      or_more true b d = refl
      or_more false b d = refl

      by : (b : Bool) → names_node (flat_map (λ (commit : Untold). commit.told) (filter (is_untold_of tid) (commits ++ record { tid = tid; told = told } ∷ []))) node
          ≡ (names_node (flat_map (λ (commit : Untold). commit.told) (filter (is_untold_of tid) commits)) node || names_node told node)
          → names_node (flat_map (λ (commit : Untold). commit.told) (if b then c ∷ filter (is_untold_of tid) (commits ++ record { tid = tid; told = told } ∷ []) else filter (is_untold_of tid) (commits ++ record { tid = tid; told = told } ∷ []))) node
          ≡ (names_node (flat_map (λ (commit : Untold). commit.told) (if b then c ∷ filter (is_untold_of tid) commits else filter (is_untold_of tid) commits)) node || names_node told node)
      by true more =
          names_more c.told (flat_map (λ (commit : Untold). commit.told) (filter (is_untold_of tid) (commits ++ record { tid = tid; told = told } ∷ []))) node
          ∙ (ap (λ (b : Bool). names_node c.told node || b) more
          ∙ (or_more (names_node c.told node) (names_node (flat_map (λ (commit : Untold). commit.told) (filter (is_untold_of tid) commits)) node) (names_node told node)
          ∙ ap (λ (b : Bool). b || names_node told node) (sym (names_more c.told (flat_map (λ (commit : Untold). commit.told) (filter (is_untold_of tid) commits)) node))))
      by false more = more

  pub last_now : (told : List NodeNo) (commits : List Untold) → fold (later_list tid) [] (commits ++ record { tid = tid; told = told } ∷ []) ≡ told
  last_now told commits = fold-append (later_list tid) [] commits (record { tid = tid; told = told } ∷ []) ∙ picked (same_tid tid tid) (grind (arith, nat_tests))
    where
      picked : (b : Bool) → b ≡ true → (if b then told else fold (later_list tid) [] commits) ≡ told
      picked b is = rw is refl

-- a record of another transaction leaves what is taken up of this one
module _ (t u : Tid) (apart : same_tid t u ≡ false) where
  turned : same_tid u t ≡ false
  turned = grind (arith, nat_tests, apart)

  last_ended : (commits : List Untold) (acc : List NodeNo) → fold (later_list t) acc (filter (λ commit. not (is_untold_of u commit)) commits) ≡ fold (later_list t) acc commits
  last_ended [] acc = refl
  last_ended (c ∷ commits) acc = by (is_untold_of u c) refl (last_ended commits)
    where
      other : is_untold_of u c ≡ true → later_list t acc c ≡ acc
      other is = picked (same_tid c.tid t) (grind (arith, nat_tests, is, apart))
        where
          picked : (b : Bool) → b ≡ false → (if b then c.told else acc) ≡ acc
          picked b off = rw off refl

      by : (b : Bool) → is_untold_of u c ≡ b → ((acc : List NodeNo) → fold (later_list t) acc (filter (λ commit. not (is_untold_of u commit)) commits) ≡ fold (later_list t) acc commits)
          → fold (later_list t) acc (if not b then c ∷ filter (λ commit. not (is_untold_of u commit)) commits else filter (λ commit. not (is_untold_of u commit)) commits) ≡ fold (later_list t) (later_list t acc c) commits
      by true is more = more acc ∙ ap (λ (l : List NodeNo). fold (later_list t) l commits) (sym (other is))
      by false is more = more (later_list t acc c)

  last_commit : (told : List NodeNo) (said : Recovery) → last_list t (found_record said (records.Commit u told)) ≡ last_list t said
  last_commit [] said = last_ended said.untold []
  last_commit (first ∷ others) said = fold-append (later_list t) [] said.untold (record { tid = u; told = first ∷ others } ∷ []) ∙ picked (same_tid u t) turned
    where
      picked : (b : Bool) → b ≡ false → (if b then first ∷ others else fold (later_list t) [] said.untold) ≡ fold (later_list t) [] said.untold
      picked b off = rw off refl

pub last_apart : (t : Tid) (rec : Record) (said : Recovery) → same_tid t (record_tid rec) ≡ false → last_list t (found_record said rec) ≡ last_list t said
last_apart t (records.Prepare u s covers changes) said apart = refl
last_apart t (records.Commit u told) said apart = last_commit t u apart told said
last_apart t (records.Aborted u) said apart = last_ended t u apart said.untold []
last_apart t (records.End u) said apart = last_ended t u apart said.untold []
