-- A Commit that is still to be told is taken up as a node opens; every other transaction is as before.
use Rattle.qs_world_lawful.proofs.Words.{◌≡◌, ◌⊎◌, inl, inr, ◌==◌, Bool, true, false, List, [], ◌∷◌, length, map, fold, Option, Some, refl, sym, ap, subst, ◌∙◌, if◌then◌else◌, filter, is_at, tid_cmp, NodeNo, Tid, same_node, at_exact, tid_itself, lookup_put, lookup_put_apart, is_among, Untold, names_transaction, take_up, committed_before, Manager, Participant, Every}
use Rattle.qs_restart.specs.Recovery.{commit_of}
use Rattle.qs_tm.specs.Manager as tm
use Rattle.qs_world_lawful.proofs.Apart.{Apart, same_or_apart}
use Rattle.qs_world_lawful.proofs.TakenUp.{node_taken}

-- its Commit is in the log
abbrev pub IsListed : List Tid → Untold → Type 0
IsListed done commit = names_transaction commit.tid ≡ true → is_among done commit.tid ≡ true

-- known by its Commit
pub record IsTold (home : Bool) (done : List Tid) (tid : Tid) (o : Option Participant) : Type 0 where
  pub told : List NodeNo
  pub is : o ≡ Some (committed_before home told)
  pub listed : is_among done tid ≡ true

module _ (tid : Tid) (home : Bool) (done : List Tid) where
  one : (c : Untold) (m : Manager) → tm.is_home tid m ≡ home → names_transaction c.tid ≡ true → IsListed done c → (tm.part_of tid (tm.take_up_commit c.tid c.told m) ≡ tm.part_of tid m) ⊎ IsTold home done tid (tm.part_of tid (tm.take_up_commit c.tid c.told m))
  one c m here named listed = by (length c.told == 0) (same_or_apart c.tid tid)
    where
      by : (b : Bool) → (c.tid ≡ tid) ⊎ Apart c.tid tid
          → (tm.part_of tid (if b then m else tm.put_part c.tid (committed_before (tm.is_home c.tid m) c.told) m) ≡ tm.part_of tid m) ⊎ IsTold home done tid (tm.part_of tid (if b then m else tm.put_part c.tid (committed_before (tm.is_home c.tid m) c.told) m))
      by true same = inl refl
      by false (inr far) = inl (lookup_put_apart tid_cmp c.tid (committed_before (tm.is_home c.tid m) c.told) (λ x e. at_exact c.tid x (rw e refl)) (is_at (tid_cmp tid)) far.at m.known)
      by false (inl same) = inr (record {
        told = c.told;
        is = subst (λ (u : Tid). tm.part_of tid (tm.put_part u (committed_before (tm.is_home u m) c.told) m) ≡ Some (committed_before home c.told)) (sym same)
            (lookup_put tid_cmp tid (committed_before (tm.is_home tid m) c.told) (tid_itself tid) m.known ∙ ap (λ (b : Bool). Some (committed_before b c.told)) here);
        listed = subst (λ (u : Tid). is_among done u ≡ true) same (listed named);
      })

  pub commits_taken : (commits : List Untold) (m : Manager) → tm.is_home tid m ≡ home → Every (IsListed done) commits
      → (tm.part_of tid (fold take_up m (map commit_of (filter (λ (commit : Untold). names_transaction commit.tid) commits))) ≡ tm.part_of tid m)
      ⊎ IsTold home done tid (tm.part_of tid (fold take_up m (map commit_of (filter (λ (commit : Untold). names_transaction commit.tid) commits))))
  commits_taken [] m here listed = inl refl
  commits_taken (c ∷ commits) m here listed = by (names_transaction c.tid) refl (λ m here. commits_taken commits m here listed.1)
    where
      by : (b : Bool) → names_transaction c.tid ≡ b
          → ((m : Manager) → tm.is_home tid m ≡ home → (tm.part_of tid (fold take_up m (map commit_of (filter (λ (commit : Untold). names_transaction commit.tid) commits))) ≡ tm.part_of tid m) ⊎ IsTold home done tid (tm.part_of tid (fold take_up m (map commit_of (filter (λ (commit : Untold). names_transaction commit.tid) commits)))))
          → (tm.part_of tid (fold take_up m (map commit_of (if b then c ∷ filter (λ (commit : Untold). names_transaction commit.tid) commits else filter (λ (commit : Untold). names_transaction commit.tid) commits))) ≡ tm.part_of tid m)
          ⊎ IsTold home done tid (tm.part_of tid (fold take_up m (map commit_of (if b then c ∷ filter (λ (commit : Untold). names_transaction commit.tid) commits else filter (λ (commit : Untold). names_transaction commit.tid) commits))))
      by false named more = more m here
      by true named more = joined (one c m here named listed.0) (more next (ap (λ (k : NodeNo). same_node tid.home k) (node_taken tid (commit_of c) m) ∙ here))
        where
          next : Manager
          next = take_up m (commit_of c)

          last : Manager
          last = fold take_up next (map commit_of (filter (λ (commit : Untold). names_transaction commit.tid) commits))

          joined : (tm.part_of tid next ≡ tm.part_of tid m) ⊎ IsTold home done tid (tm.part_of tid next) → (tm.part_of tid last ≡ tm.part_of tid next) ⊎ IsTold home done tid (tm.part_of tid last)
              → (tm.part_of tid last ≡ tm.part_of tid m) ⊎ IsTold home done tid (tm.part_of tid last)
          joined first (inr t) = inr t
          joined (inl same) (inl e) = inl (e ∙ same)
          joined (inr t) (inl e) = inr (record { told = t.told; is = e ∙ t.is; listed = t.listed })
