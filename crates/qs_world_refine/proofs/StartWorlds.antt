-- As a world begins, nothing is seen of a transaction of which no log has a record.
use Rattle.qs_world_refine.proofs.Words.{◌≡◌, ℕ, ◌<◌, ◌≤◌, ◌==◌, ◌&&◌, ◌||◌, Bool, true, false, Option, Some, None, unwrap_or, nat_lt, nat_le, refl, ap, subst, arith, if◌then◌else◌, slice_index_or, list_any, eqb-true, and_parts, nat_tests, get_or_past, same_tid, Tid, no_peer, no_nodes, same_node, recovery, names_transaction, no_member, new_participant, Participant, NodeValue, IsOpening, is_setting, Opening, start, each_is, face, face_at, uncast_of, began_here, is_past_commit, loans_at, scene_of}
use Rattle.qs_world_refine.proofs.Words.{sight, Sight, IsNewFace, SaysNothing, begins_at, IsUnseen, MayBegin}
use Rattle.std.proofs.Common.{replicate}
use Rattle.std.proofs.lemmas.List.{get_or-replicate, length-replicate}
use Rattle.qs_base.specs.declared.identifiers.Outcome.TheVariants as outcomes
use Rattle.qs_tm.specs.Manager as tm
use Rattle.qs_world_refine.specs.NodeFaces.{waiting_at}
use Rattle.qs_world_refine.specs.Starts.{HasNoRecord}
use Rattle.qs_world_refine.proofs.StartLogs.{says_nothing, unknown_there}

pub alike_at : {X : Type 0} (k m : ℕ) (x : X) → slice_index_or (replicate k x) m x ≡ x
alike_at {X} k m x = by (nat_lt m k) refl
  where
    by : (b : Bool) → nat_lt m k ≡ b → slice_index_or (replicate k x) m x ≡ x
    by true below = get_or-replicate k m x x (grind (arith, nat_tests, below))
    by false past = get_or_past (replicate k x) m x (rw (length-replicate k x) (grind (arith, nat_tests, past)))

-- nobody is in the empty set
pub nobody : (m : ℕ) → slice_index_or no_nodes.has m false ≡ false
nobody m = alike_at 16 m false

-- the face of one of which the node has only heard
pub new_is : (node : NodeValue) (tid : Tid) (home : Bool) → ((s : ℕ) → waiting_at node tid s ≡ 0) → loans_at node tid ≡ 0 → IsNewFace (began_here node tid) (face node tid (new_participant home))
new_is node tid home waits loans = record {
  is_home = refl;
  on = by (began_here node tid);
  superior = refl;
  last = λ m. rw (alike_at 16 m no_peer) refl;
  sent = λ m. rw (alike_at 16 m no_peer) refl;
  covered = λ m. rw (alike_at 16 m no_peer) refl;
  waits = waits;
  uncast = λ s. ap uncast_of (alike_at 7 s no_member);
  loans = loans;
  asked = refl;
  blocked = refl;
  involved = refl;
  told = nobody;
  outcome = refl;
  tell = nobody;
  acknowledged = nobody;
}
  where
    by : (b : Bool) → (if b then true else false) ≡ b
    by true = refl
    by false = refl

-- one that a node does not know, and that it has no commit of
pub unknown_is_new : (node : NodeValue) (tid : Tid) → tm.part_of tid node.manager ≡ None → is_past_commit node tid ≡ false → ((s : ℕ) → waiting_at node tid s ≡ 0) → loans_at node tid ≡ 0 → IsNewFace (began_here node tid) (face_at node tid)
unknown_is_new node tid none past waits loans = by (tm.part_of tid node.manager) none (same_node tid.home node.setting.node) (is_past_commit node tid) past
  where
    by : (o : Option Participant) → o ≡ None → (h c : Bool) → c ≡ false
        → IsNewFace (began_here node tid) (face node tid (unwrap_or o (if h then record (new_participant true) { outcome = if c then Some outcomes.Commit else None } else new_participant false)))
    by o none true c clear = rw (none, clear) (new_is node tid true waits loans)
    by o none false c clear = rw none (new_is node tid false waits loans)

module _ (tid : Tid) (o : Opening) (opens : IsOpening o) where
  abbrev x : Sight
  x = sight tid (scene_of (start o))

  small : o.size ≤ 16
  small = grind (arith, nat_tests, (and_parts (nat_le 1 o.size) (nat_le o.size 16) opens.size).1)

  setting_node : (n : ℕ) → n < o.size → (o.settings n).node.0 ≡ n
  setting_node n in_run = let is : is_setting o.size n (o.settings n) ≡ true = each_is o.size (λ n. is_setting o.size n (o.settings n)) opens.settings n in_run in
      eqb-true (o.settings n).node.0 n (and_parts ((o.settings n).node.0 == n) ((o.settings n).nodes == o.size) (and_parts (((o.settings n).node.0 == n) && ((o.settings n).nodes == o.size)) _ is).0).0

  module _ (numbered : names_transaction tid ≡ true) (home_in : tid.home.0 < o.size) (clear : HasNoRecord tid o) where
    says : (n : ℕ) → n < o.size → SaysNothing tid (recovery (o.logs n))
    says n in_run = says_nothing tid (o.logs n) (clear n in_run)

    abbrev node : ℕ → NodeValue
    node n = (scene_of (start o)).node n

    past : (n : ℕ) → n < o.size → is_past_commit (node n) tid ≡ false
    past n in_run = by (began_here (node n) tid) (list_any (same_tid tid) (recovery (o.logs n)).committed) (says n in_run).committed
      where
        by : (b c : Bool) → c ≡ false → (if b then false || c else c) ≡ false
        by true c is = is
        by false c is = is

    new_face : (n : ℕ) → n < o.size → IsNewFace (began_here (node n) tid) (face_at (node n) tid)
    new_face n in_run = unknown_is_new (node n) tid (unknown_there tid o.alloc (o.settings n) (o.logs n) (says n in_run)) (past n in_run) (λ s. refl) refl

    home_is : (n : ℕ) → n < o.size → began_here (node n) tid ≡ begins_at tid x n
    home_is n in_run = ap (λ (k : ℕ). (tid.home.0 == k) && (tid.inc == (o.settings n).inc)) (setting_node n in_run)

    pub start_unseen : IsUnseen tid x
    start_unseen = record {
      small = small;
      numbered = numbered;
      home_in = home_in;
      faces = λ n in_run up. subst (λ (b : Bool). IsNewFace b (face_at (node n) tid)) (home_is n in_run) (new_face n in_run);
      links = λ n i m j. refl;
      unmet = λ n m. refl;
      logs = λ n in_run. says n in_run;
    }

  pub start_may : tid.home.0 < o.size → tid.inc ≡ (o.settings tid.home.0).inc → MayBegin tid x
  start_may home_in now = record { small = small; home_up = refl; home_in = home_in; home_now = now; known = λ n m. grind (arith) }
