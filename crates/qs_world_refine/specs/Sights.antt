-- All that is seen of one transaction, and how a world of the agreement machine shows it.
use Rattle.std.specs.Prelude.{◌≡◌, ℕ, ◌==◌, ◌<◌, ◌≤◌, Bool, true, not, ◌&&◌, List, if◌then◌else◌}
use Rattle.std.specs.List.{filter, list_any, flat_map}
use Rattle.qs_base.specs.Order.{same_tid}
use Rattle.qs_base.specs.declared.identifiers.NodeNo.{NodeNo}
use Rattle.qs_base.specs.declared.identifiers.ServerNo.{ServerNo}
use Rattle.qs_base.specs.declared.identifiers.Tid.{Tid}
use Rattle.qs_ops.specs.Members.{class_of}
use Rattle.qs_restart.specs.Recovery.{Prepared, Untold, Recovery, names_transaction, is_vote_of, is_untold_of}
use Rattle.qs_world_agree.specs.World as machine
use Rattle.qs_world_refine.specs.Places.{place, known_place, home_place, class_in}
use Rattle.qs_world_refine.specs.Faces.{Face, ShowsFace}
use Rattle.qs_world_refine.specs.Links.{Said, names_node, node_no, link, waiting_link, IsLink}

abbrev pub server_no : ℕ → ServerNo
server_no s = record { 0 = s }

-- what is read of the world for one transaction
pub record Sight : Type 0 where
  pub size : ℕ
  pub inc : ℕ → ℕ  -- a node's present incarnation
  pub up : ℕ → Bool
  pub knows : ℕ → ℕ → ℕ  -- the incarnation of a node that a node knows
  pub face : ℕ → Face
  pub said : ℕ → ℕ → ℕ → ℕ → List Said  -- what is on its way, from a node in an incarnation to a node in an incarnation
  pub unmet : ℕ → ℕ → List Said  -- what waits for a node that is not known
  pub found : ℕ → Recovery  -- what a node's log says

-- a function of two places, changed at one pair of them
abbrev pub with_at4 : {A : Type 0} → (ℕ → ℕ → ℕ → ℕ → A) → ℕ → ℕ → ℕ → ℕ → A → ℕ → ℕ → ℕ → ℕ → A
with_at4 f n i m j x p k q l = if (p == n) && ((k == i) && ((q == m) && (l == j))) then x else f p k q l

-- ---- logs

-- a server's Prepare that is not ended, and has no Commit beside it
abbrev pub is_in_doubt : Tid → ℕ → Recovery → Bool
is_in_doubt tid s found = list_any (λ (vote : Prepared). is_vote_of tid (server_no s) vote && not vote.committed) found.prepared

abbrev pub list_of : Tid → Recovery → List NodeNo
list_of tid found = flat_map (λ (commit : Untold). commit.told) (filter (is_untold_of tid) found.untold)

pub record ShowsLog (tid : Tid) (n : ℕ) (found : Recovery) (w : machine.World) : Type 0 where
  pub prepared : (s : ℕ) → w.prepared n s ≡ is_in_doubt tid s found
  pub committed : n ≡ tid.home.0 → w.commit_logged ≡ list_any (same_tid tid) found.committed
  pub unended : n ≡ tid.home.0 → w.unended ≡ list_any (is_untold_of tid) found.untold
  pub named : n ≡ tid.home.0 → w.unended ≡ true → (m : ℕ) → w.commit_list m ≡ names_node (list_of tid found) (node_no m)

-- ---- all of it

-- nodes, incarnations and sessions
pub record ShowsStage (tid : Tid) (x : Sight) (w : machine.World) : Type 0 where
  pub small : x.size ≤ 16
  pub numbered : names_transaction tid ≡ true
  pub home : w.home ≡ home_place tid
  pub nodes : (n i : ℕ) → n < x.size → w.node (place n i) ≡ n
  pub classes : (n s : ℕ) → w.class n s ≡ class_in (class_of s)
  pub present : (n : ℕ) → n < x.size → w.present n ≡ place n (x.inc n)
  pub up : (n i : ℕ) → n < x.size → w.up (place n i) ≡ (x.up n && (i == x.inc n))
  pub peers : (n m : ℕ) → n < x.size → m < x.size → x.up n ≡ true → w.peer (place n (x.inc n)) m ≡ known_place m (x.knows n m)

-- of dead places nothing is shown: each guard of the machine reads a place that runs, or a channel to one
pub record ShowsSight (tid : Tid) (x : Sight) (w : machine.World) : Type 0 where
  pub stage : ShowsStage tid x w
  pub faces : (n : ℕ) → n < x.size → x.up n ≡ true → ShowsFace (x.face n) (place n (x.inc n)) w
  pub links : (n i m j : ℕ) → n < x.size → m < x.size → x.up m ≡ true → j ≡ x.inc m → IsLink (link w (place n i) (place m j)) (x.said n i m j)  -- to places that run
  pub unmet : (n m : ℕ) → n < x.size → m < x.size → x.up n ≡ true → x.knows n m ≡ 0 → IsLink (waiting_link w (place n (x.inc n)) m) (x.unmet n m)
  pub logs : (n : ℕ) → n < x.size → ShowsLog tid n (x.found n) w
