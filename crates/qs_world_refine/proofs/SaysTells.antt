-- Whom a node is to tell a commit: nobody where it knows none, and more as it goes on.
use Rattle.qs_world_refine.proofs.Words.{◌≡◌, ℕ, ◌<◌, ◌||◌, Bool, true, false, List, Option, Some, None, is_none, refl, sym, ap, subst, ◌∙◌, if◌then◌else◌, NodeNo, Tid, no_nodes, put_node, union, is_undecided, Participant, Work, part_of, node_no, tell_of_part, same_Some, or_left}
use Rattle.qs_base.specs.declared.identifiers.Outcome.{Outcome}
use Rattle.qs_engage.specs.Nodes.{has_node}
use Rattle.qs_tm.specs.Outcomes as outcome_rules
use Rattle.qs_world_refine.specs.Lists.{is_commit}
use Rattle.qs_world_refine.proofs.NodeLists.{put_grows}
use Rattle.qs_world_refine.proofs.NodeTests.{where_is}
use Rattle.qs_world_refine.proofs.StartWorlds.{nobody}

-- it is not known as committed
abbrev pub NotCommitted : Tid → Work → Type 0
NotCommitted tid work = (part : Participant) → part_of tid work ≡ Some part → is_commit part.outcome ≡ false

pub open_commit : (o : Option Outcome) → is_none o ≡ true → is_commit o ≡ false
open_commit None is = refl
open_commit (Some outcome) is = absurd (cc (is))

pub open_of : (tid : Tid) (work : Work) (part : Participant) → part_of tid work ≡ Some part → is_undecided part ≡ true → NotCommitted tid work
open_of tid work part known open_now other its = subst (λ (p : Participant). is_commit p.outcome ≡ false) (same_Some part other (sym known ∙ its)) (open_commit part.outcome open_now)

-- so nobody is to be told that
pub nobody_told : (part : Participant) → is_commit part.outcome ≡ false → (m : ℕ) → has_node (tell_of_part part) (node_no m) ≡ true → ⊥
nobody_told part off m has = let none : has_node (tell_of_part part) (node_no m) ≡ false = ap (λ (b : Bool). has_node (if b then part.tell else no_nodes) (node_no m)) off ∙ nobody m in cc (none, has)

-- whom it is to tell goes on
pub names_grow : (tid : Tid) (further : List NodeNo) (part : Participant) (b : Bool) (m : ℕ) → m < 16 → has_node (if b then part.tell else no_nodes) (node_no m) ≡ true
    → has_node (if b then union part.tell (outcome_rules.new_names tid.home further part) else no_nodes) (node_no m) ≡ true
names_grow tid further part true m below has = where_is (λ node. has_node part.tell node || has_node (outcome_rules.new_names tid.home further part) node) m below ∙ or_left (has_node part.tell (node_no m)) (has_node (outcome_rules.new_names tid.home further part) (node_no m)) has
names_grow tid further part false m below has = has

pub tell_grows : (peer : NodeNo) (part : Participant) (b : Bool) (m : ℕ) → has_node (if b then part.tell else no_nodes) (node_no m) ≡ true → has_node (if b then put_node part.tell peer else no_nodes) (node_no m) ≡ true
tell_grows peer part true m has = put_grows part.tell peer m has
tell_grows peer part false m has = has
