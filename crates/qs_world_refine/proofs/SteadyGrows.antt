-- What has begun has begun for good, so that what was said of a world is so of a later one.
use Rattle.qs_world_refine.proofs.Words.{◌≡◌, inl, inr, ℕ, ◌≤◌, ◌<◌, ◌==◌, ◌&&◌, ◌||◌, not, Bool, true, false, List, ◌++◌, refl, sym, subst, ◌∙◌, arith, nat_lt, nat_le, nat_tests, ◌⊎◌, list_all, NodeNo, Tid, same_node, Record, names_transaction, Host, Parcel, begun_among, past_among, inc_in, count_in, may_be_known, fits, fits_record, is_list_at, node_no, IsSeated, stage_with, stage_of, is_steady_record, is_steady_parcel, are_two, IsSteadyHost, Stage, IsStage, is_tidy_record, or_right, implied}
use Rattle.qs_session_channels.specs.Network.{with_at}
use Rattle.qs_record.specs.declared.record.Record.TheVariants as records
use Rattle.qs_world.specs.World.{World}
use Rattle.qs_world_refine.specs.Begun.{has_begun}
use Rattle.qs_world_refine.proofs.SoundBegin.{all_implied}
use Rattle.qs_world_refine.proofs.SoundParts.{and_both, both_and}
use Rattle.qs_world_refine.proofs.TidyBegins.{Widens, fits_wide, node_wide, record_wide}

-- incarnations rise, and numbers in each
abbrev pub Rises : (ℕ → ℕ) → (ℕ → ℕ) → (ℕ → ℕ) → (ℕ → ℕ) → Type 0
Rises inc count later more = (k : ℕ) → (inc k < later k) ⊎ ((inc k ≡ later k) × (count k ≤ more k))

module _ (size : ℕ) (inc count later more : ℕ → ℕ) (rises : Rises inc count later more) where
  pub begun_rises : (tid : Tid) → begun_among size inc count tid ≡ true → begun_among size later more tid ≡ true
  begun_rises tid is =
      let both : (names_transaction tid ≡ true) × ((nat_lt tid.home.0 size && (nat_lt tid.inc (inc tid.home.0) || ((tid.inc == inc tid.home.0) && nat_le tid.seq (count tid.home.0)))) ≡ true) = and_both (names_transaction tid) _ is in
      let rest : (nat_lt tid.home.0 size ≡ true) × ((nat_lt tid.inc (inc tid.home.0) || ((tid.inc == inc tid.home.0) && nat_le tid.seq (count tid.home.0))) ≡ true) = and_both (nat_lt tid.home.0 size) _ both.1 in
      both_and (names_transaction tid) _ both.0 (both_and (nat_lt tid.home.0 size) _ rest.0 (on tid.inc (inc tid.home.0) tid.seq (count tid.home.0) (later tid.home.0) (more tid.home.0) (rises tid.home.0) rest.1))
    where
      on : (i n s c l m : ℕ) → ((n < l) ⊎ ((n ≡ l) × (c ≤ m))) → (nat_lt i n || ((i == n) && nat_le s c)) ≡ true → (nat_lt i l || ((i == l) && nat_le s m)) ≡ true
      on i n s c l m (inl less) is = grind (arith, nat_tests, less, is)
      on i n s c l m (inr same) is = let at : n ≡ l = same.0 in let low : c ≤ m = same.1 in grind (arith, nat_tests, at, low, is)

  pub past_rises : (tid : Tid) → past_among size inc count tid ≡ true → past_among size later more tid ≡ true
  past_rises tid is =
      let both : (names_transaction tid ≡ true) × ((not (nat_lt tid.home.0 size) || begun_among size inc count tid) ≡ true) = and_both (names_transaction tid) _ is in
      both_and (names_transaction tid) _ both.0 (or_more (not (nat_lt tid.home.0 size)) (begun_among size inc count tid) (begun_among size later more tid) (begun_rises tid) both.1)
    where
      or_more : (a b c : Bool) → (b ≡ true → c ≡ true) → (a || b) ≡ true → (a || c) ≡ true
      or_more true b c more is = refl
      or_more false b c more is = more is

-- what has begun may be known, and what may be known of this node's own has one of its numbers
module _ (size : ℕ) (inc count : ℕ → ℕ) where
  pub begun_past : (tid : Tid) → begun_among size inc count tid ≡ true → (past_among size inc count tid ≡ true) × (nat_lt tid.home.0 size ≡ true)
  begun_past tid is =
      let both : (names_transaction tid ≡ true) × ((nat_lt tid.home.0 size && (nat_lt tid.inc (inc tid.home.0) || ((tid.inc == inc tid.home.0) && nat_le tid.seq (count tid.home.0)))) ≡ true) = and_both (names_transaction tid) _ is in
      (both_and (names_transaction tid) _ both.0 (or_right (not (nat_lt tid.home.0 size)) (begun_among size inc count tid) is), (and_both (nat_lt tid.home.0 size) _ both.1).0)

  pub own_past : (n : ℕ) (tid : Tid) → n < size → past_among size inc count tid ≡ true → (tid.home.0 == n) ≡ true → (names_transaction tid ≡ true) × ((tid.inc < inc n) ⊎ ((tid.inc ≡ inc n) × (tid.seq ≤ count n)))
  own_past n tid low is home =
      let both : (names_transaction tid ≡ true) × ((not (nat_lt tid.home.0 size) || begun_among size inc count tid) ≡ true) = and_both (names_transaction tid) _ is in
      (both.0, given (implied (nat_lt tid.home.0 size) (begun_among size inc count tid) in_run both.1))
    where
      at : tid.home.0 ≡ n
      at = grind (arith, nat_tests, home)

      in_run : nat_lt tid.home.0 size ≡ true
      in_run = grind (arith, nat_tests, at, low)

      split : (i k s m : ℕ) → (nat_lt i k || ((i == k) && nat_le s m)) ≡ true → (i < k) ⊎ ((i ≡ k) × (s ≤ m))
      split i k s m is = by (nat_lt i k) refl
        where
          by : (b : Bool) → nat_lt i k ≡ b → (i < k) ⊎ ((i ≡ k) × (s ≤ m))
          by true less = inl (grind (arith, nat_tests, less))
          by false off = inr (grind (arith, nat_tests, off, is), grind (arith, nat_tests, off, is))

      given : begun_among size inc count tid ≡ true → (tid.inc < inc n) ⊎ ((tid.inc ≡ inc n) × (tid.seq ≤ count n))
      given is = subst (λ (k : ℕ). (tid.inc < inc k) ⊎ ((tid.inc ≡ inc k) × (tid.seq ≤ count k))) at
          (split tid.inc (inc tid.home.0) tid.seq (count tid.home.0) (and_both (nat_lt tid.home.0 size) _ (and_both (names_transaction tid) _ is).1).1)

-- ---- a stage of a world

-- the node has the place and the incarnation that the world says
pub stage_stands : (world : World) (n : ℕ) (node : Rattle.qs_node_step.specs.State.NodeValue) → n < world.size → node.setting.node ≡ node_no n → node.setting.nodes ≡ world.size → node.setting.inc ≡ inc_in world n → node.manager.begun ≡ count_in world n → IsStage (stage_with world n node)
stage_stands world n node low place nodes inc count = record {
  inside = λ tid is. subst (λ (k : ℕ). (may_be_known world tid ≡ true) × (nat_lt tid.home.0 k ≡ true)) (sym nodes) (begun_past world.size (inc_in world) (count_in world) tid is);
  own = λ tid is home. subst (λ (k : ℕ). (names_transaction tid ≡ true) × ((tid.inc < k) ⊎ ((tid.inc ≡ k) × (tid.seq ≤ node.manager.begun)))) (sym inc)
      (subst (λ (k : ℕ). (names_transaction tid ≡ true) × ((tid.inc < inc_in world n) ⊎ ((tid.inc ≡ inc_in world n) × (tid.seq ≤ k)))) (sym count)
      (own_past world.size (inc_in world) (count_in world) n tid low is (subst (λ (m : NodeNo). same_node tid.home m ≡ true) place home)));
}

pub stage_is : (world : World) (n : ℕ) → n < world.size → world.channels.up n ≡ true → IsSeated world → IsStage (stage_of world n)
stage_is world n low up seated = stage_stands world n (world.hosts n).node low (seated.node n low) (seated.nodes n low) (seated.inc n low ∙ rw up refl) (rw up refl)

-- ---- from one world to a later one

pub record Grows (old new : World) : Type 0 where
  pub size : new.size ≡ old.size
  pub rises : Rises (inc_in old) (count_in old) (inc_in new) (count_in new)

module _ (old new : World) (grows : Grows old new) where
  pub has_begun_on : (tid : Tid) → has_begun old tid ≡ true → has_begun new tid ≡ true
  has_begun_on tid is = subst (λ (s : ℕ). begun_among s (inc_in new) (count_in new) tid ≡ true) (sym grows.size) (begun_rises old.size (inc_in old) (count_in old) (inc_in new) (count_in new) grows.rises tid is)

  pub may_be_on : (tid : Tid) → may_be_known old tid ≡ true → may_be_known new tid ≡ true
  may_be_on tid is = subst (λ (s : ℕ). past_among s (inc_in new) (count_in new) tid ≡ true) (sym grows.size) (past_rises old.size (inc_in old) (count_in old) (inc_in new) (count_in new) grows.rises tid is)

  -- of a node that stays
  pub stage_wide : (n : ℕ) (node : Rattle.qs_node_step.specs.State.NodeValue) → ((m : ℕ) → 1 ≤ old.channels.peer n m → 1 ≤ new.channels.peer n m) → Widens (stage_with old n node) (stage_with new n node)
  stage_wide n node knows = record { setting = refl; past = may_be_on; begun = has_begun_on; met = λ m is. met m.0 is }
    where
      met : (m : ℕ) → nat_lt 0 (old.channels.peer n m) ≡ true → nat_lt 0 (new.channels.peer n m) ≡ true
      met m is = let it : 1 ≤ new.channels.peer n m = knows m (grind (arith, nat_tests, is)) in grind (arith, nat_tests, it)

  pub parcel_on : (n m : ℕ) (parcel : Parcel) → is_steady_parcel old n m parcel ≡ true → is_steady_parcel new n m parcel ≡ true
  parcel_on n m parcel is = subst (λ (s : ℕ). (are_two s n m && fits (may_be_known new) (has_begun new) s (node_no n) (node_no m) parcel.message) ≡ true) (sym grows.size)
      (let both : (are_two old.size n m ≡ true) × (fits (may_be_known old) (has_begun old) old.size (node_no n) (node_no m) parcel.message ≡ true) = and_both (are_two old.size n m) _ is in
      both_and (are_two old.size n m) _ both.0 (fits_wide (stage_of old n) (record (stage_of old n) { past = may_be_known new; begun = has_begun new }) wide old.size (node_no n) (node_no m) parcel.message both.1))
    where
      wide : Widens (stage_of old n) (record (stage_of old n) { past = may_be_known new; begun = has_begun new })
      wide = record { setting = refl; past = may_be_on; begun = has_begun_on; met = λ m is. is }

  pub parcels_on : (n m : ℕ) (parcels : List Parcel) → list_all (is_steady_parcel old n m) parcels ≡ true → list_all (is_steady_parcel new n m) parcels ≡ true
  parcels_on n m parcels all = all_implied (is_steady_parcel old n m) (is_steady_parcel new n m) (parcel_on n m) parcels all

-- ---- records

pub record_on : (past more : Tid → Bool) → ((tid : Tid) → past tid ≡ true → more tid ≡ true) → (me : NodeNo) (rec : Record) → is_steady_record past me rec ≡ true → is_steady_record more me rec ≡ true
record_on past more grow me rec is = by rec is
  where
    name_on : (tid : Tid) → (not (names_transaction tid) || past tid) ≡ true → (not (names_transaction tid) || more tid) ≡ true
    name_on tid is = at (names_transaction tid) is
      where
        at : (b : Bool) → (not b || past tid) ≡ true → (not b || more tid) ≡ true
        at true its = grow tid its
        at false its = refl

    first : (tid : Tid) (b : Bool) → ((not (names_transaction tid) || past tid) && b) ≡ true → ((not (names_transaction tid) || more tid) && b) ≡ true
    first tid b its = let both : ((not (names_transaction tid) || past tid) ≡ true) × (b ≡ true) = and_both _ b its in both_and (not (names_transaction tid) || more tid) b (name_on tid both.0) both.1

    by : (rec : Record) → is_steady_record past me rec ≡ true → is_steady_record more me rec ≡ true
    by (records.Prepare tid server covers changes) its = first tid _ its
    by (records.Commit tid told) its = first tid (is_list_at me tid told) its
    by (records.Aborted tid) its = name_on tid its
    by (records.End tid) its = name_on tid its

-- one that names a transaction that may be known
pub record_steady : (past : Tid → Bool) (me : NodeNo) (rec : Record) → fits_record past me rec ≡ true → is_steady_record past me rec ≡ true
record_steady past me rec is = by rec is
  where
    first : (tid : Tid) (b : Bool) → (past tid && b) ≡ true → ((not (names_transaction tid) || past tid) && b) ≡ true
    first tid b its = let both : (past tid ≡ true) × (b ≡ true) = and_both (past tid) b its in both_and (not (names_transaction tid) || past tid) b (or_right (not (names_transaction tid)) (past tid) both.0) both.1

    by : (rec : Record) → fits_record past me rec ≡ true → is_steady_record past me rec ≡ true
    by (records.Prepare tid server covers changes) its = first tid _ its
    by (records.Commit tid told) its = first tid (is_list_at me tid told) its
    by (records.Aborted tid) its = or_right (not (names_transaction tid)) (past tid) its
    by (records.End tid) its = or_right (not (names_transaction tid)) (past tid) its

-- ---- a host that stays

pub host_wide : (c d : Stage) → Widens c d → d.count ≡ c.count → (host : Host) → IsSteadyHost c host → IsSteadyHost d host
host_wide c d wide count host is = record {
  tidy = node_wide c d wide host.node count is.tidy;
  saved = is.saved;
  first = is.first;
  records = subst (λ (s : Rattle.qs_node_step.specs.declared.setting.Setting.Setting). list_all (is_steady_record d.past s.node) (host.log ++ host.waiting) ≡ true) (sym wide.setting)
      (all_implied (is_steady_record c.past c.setting.node) (is_steady_record d.past c.setting.node) (record_on c.past d.past wide.past c.setting.node) (host.log ++ host.waiting) is.records);
  waiting = all_implied (is_tidy_record c) (is_tidy_record d) (record_wide c d wide) host.waiting is.waiting;
  unended = is.unended;
}

-- one host changes
pub hosts_after : (old new : World) (n : ℕ) (host : Host) → Grows old new → ((k : ℕ) → new.hosts k ≡ with_at old.hosts n host k) → ((k m : ℕ) → (k == n) ≡ false → 1 ≤ old.channels.peer k m → 1 ≤ new.channels.peer k m)
    → (n < old.size → IsSteadyHost (stage_with new n host.node) host) → ((k : ℕ) → k < old.size → IsSteadyHost (stage_of old k) (old.hosts k)) → (k : ℕ) → k < new.size → IsSteadyHost (stage_of new k) (new.hosts k)
hosts_after old new n host grows hosts knows its all k low = by (k == n) refl
  where
    low_old : k < old.size
    low_old = subst (λ (s : ℕ). k < s) grows.size low

    by : (b : Bool) → (k == n) ≡ b → IsSteadyHost (stage_of new k) (new.hosts k)
    by true same =
        let at : k ≡ n = grind (arith, nat_tests, same) in
        let here : new.hosts k ≡ host = hosts k ∙ rw same refl in
        subst (λ (h : Host). IsSteadyHost (stage_with new k h.node) h) (sym here) (subst (λ (m : ℕ). IsSteadyHost (stage_with new m host.node) host) (sym at) (its (subst (λ (m : ℕ). m < old.size) at low_old)))
    by false apart =
        let here : new.hosts k ≡ old.hosts k = hosts k ∙ rw apart refl in
        subst (λ (h : Host). IsSteadyHost (stage_with new k h.node) h) (sym here)
        (host_wide (stage_of old k) (stage_with new k (old.hosts k).node) (stage_wide old new grows k (old.hosts k).node (λ m is. knows k m apart is)) refl (old.hosts k) (all k low_old))
