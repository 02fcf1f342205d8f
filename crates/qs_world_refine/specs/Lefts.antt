-- A transaction of an incarnation of its home that is past, of which nothing but logs speaks, and what the agreement machine begins with there.
--
-- The machine has a second beginning for it, over its logs (`Origins`): a run from its start that leads to what logs say would have to be made up for each set of logs, and the machine's
-- invariant holds over logs that stand together as it is.
--
-- Each transaction that an opening's logs name is one: in the run it is in doubt, asked about, told and ended. So is one whose number was never given, since its home
-- restarted in a later incarnation; of that no log says anything. A transaction whose home is not in the run has no machine: no message about it passes
-- between nodes of the run, since only the home tells, and only the home is asked or answered (`OutsideForeign`); its votes stay in doubt, and nobody answers their inquiries.
use Rattle.std.specs.Prelude.{◌≡◌, ℕ, ◌<◌, ◌≤◌, true, false, [], nat_lt, if◌then◌else◌}
use Rattle.std.specs.List.{list_any}
use Rattle.qs_base.specs.Order.{same_tid}
use Rattle.qs_base.specs.declared.identifiers.Tid.{Tid}
use Rattle.qs_ops.specs.Members.{class_of}
use Rattle.qs_restart.specs.Recovery.{names_transaction, is_untold_of}
use Rattle.qs_world_agree.specs.Origins as origins
use Rattle.qs_world_refine.specs.Links.{names_node, node_no}
use Rattle.qs_world_refine.specs.Places.{place, home_place, class_in}
use Rattle.qs_world_refine.specs.RiseLaws.{IsRisenFace}
use Rattle.qs_world_refine.specs.Sights.{Sight, is_in_doubt, list_of}
use Rattle.qs_world_refine.specs.Sound.{has_doubt}
use Rattle.qs_world_refine.specs.Starts.{node_of, opening_seen}

-- each node that runs has of it what its log says, and nothing is on its way; where the home's log has the Commit its node is not in doubt, and any other that is, is still to be told
pub record IsLeft (tid : Tid) (x : Sight) : Type 0 where
  pub small : x.size ≤ 16
  pub numbered : names_transaction tid ≡ true
  pub home_in : tid.home.0 < x.size
  pub past : tid.inc < x.inc tid.home.0
  pub known : (n m : ℕ) → x.knows n m ≤ x.inc m
  pub faces : (n : ℕ) → n < x.size → x.up n ≡ true → IsRisenFace tid n (x.found n) (x.face n)
  pub links : (n i m j : ℕ) → x.said n i m j ≡ []
  pub unmet : (n m : ℕ) → x.unmet n m ≡ []
  pub stands : list_any (is_untold_of tid) (x.found tid.home.0).untold ≡ true → list_any (same_tid tid) (x.found tid.home.0).committed ≡ true
  pub home_clear : list_any (same_tid tid) (x.found tid.home.0).committed ≡ true → has_doubt tid (x.found tid.home.0) ≡ false
  pub listed : (n : ℕ) → n < x.size → list_any (same_tid tid) (x.found tid.home.0).committed ≡ true → has_doubt tid (x.found n) ≡ true
      → (list_any (is_untold_of tid) (x.found tid.home.0).untold ≡ true) × (names_node (list_of tid (x.found tid.home.0)) (node_no n) ≡ true)

-- what its machine finds
abbrev pub reopening_seen : Tid → Sight → origins.Reopening
reopening_seen tid x = record {
  node = node_of;
  class = λ n s. class_in (class_of s);
  home = home_place tid;
  present = λ n. place n (x.inc n);
  up = (opening_seen tid x).up;
  peer = (opening_seen tid x).peer;
  prepared = λ n s. if nat_lt n x.size then is_in_doubt tid s (x.found n) else false;
  doubts = λ n. if nat_lt n x.size then has_doubt tid (x.found n) else false;
  committed = list_any (same_tid tid) (x.found tid.home.0).committed;
  unended = list_any (is_untold_of tid) (x.found tid.home.0).untold;
  list = λ m. names_node (list_of tid (x.found tid.home.0)) (node_no m);
}
