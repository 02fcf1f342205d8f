-- What a node that opens over its log knows of a transaction: its votes in doubt, and a Commit that is still to be told.
use Rattle.qs_world_lawful.proofs.Words.{◌≡◌, ◌⊎◌, inl, inr, ℕ, ◌<◌, ◌==◌, zero, suc, replicate, Bool, true, false, List, [], ◌∷◌, length, map, fold, Option, Some, None, is_some, unwrap_or, refl, sym, ap, subst, ◌∙◌, arith, if◌then◌else◌, slice_index_or, filter, list_all, insert_entry, is_at, nat_tests, tid_cmp, same_tid-self, NodeNo, Outcome, ServerNo, Tid, new_engage, same_node, at_exact, tid_itself, changed_apart, lookup_changed, lookup_put, lookup_put_apart, is_recoverable, Record, Prepared}
use Rattle.qs_world_lawful.proofs.Words.{is_in_doubt, prepare_of, no_member, voted_before, committed_before, new_participant, member_of, Manager, Participant, Every, last_doubt, member_as, and_parts, eqb-true, eqb-false}
use Rattle.qs_base.specs.declared.identifiers.Outcome.TheVariants as outcomes
use Rattle.qs_record.specs.declared.record.Record.TheVariants as records
use Rattle.qs_tm.specs.Manager as tm
use Rattle.qs_world_lawful.proofs.Apart.{Apart, same_or_apart}
use Rattle.qs_world_lawful.proofs.Parts.{index_set, index_apart, set_size}

abbrev take_up : Manager → Record → Manager
take_up manager rec = tm.take_up rec manager

abbrev pub server_at : ℕ → ServerNo
server_at s = record { 0 = s }

-- as a home takes up a vote it is aborted; elsewhere its outcome is not known
abbrev pub outcome_before : Bool → Option Outcome
outcome_before home = if home then Some outcomes.Abort else None

pub record IsTaken (home : Bool) (votes : ℕ → Option Prepared) (part : Participant) : Type 0 where
  pub engage : part.engage ≡ new_engage home
  pub asked : part.asked ≡ false
  pub places : length part.members ≡ 7
  pub members : (s : ℕ) → s < 7 → member_of part (server_at s) ≡ member_as (votes s)
  pub outcome : part.outcome ≡ outcome_before home
  pub involved : part.involved ≡ true
  pub prepared : part.log.prepared ≡ true
  pub unlisted : part.log.listed ≡ false

abbrev pub Taken : Bool → (ℕ → Option Prepared) → Option Participant → Type 0
Taken home votes None = (s : ℕ) → votes s ≡ None
Taken home votes (Some part) = IsTaken home votes part

taken_alike : (home : Bool) (votes other : ℕ → Option Prepared) → ((s : ℕ) → other s ≡ votes s) → (o : Option Participant) → Taken home votes o → Taken home other o
taken_alike home votes other same None h = λ s. same s ∙ h s
taken_alike home votes other same (Some part) h = record {
  engage = h.engage;
  asked = h.asked;
  places = h.places;
  members = λ s low. h.members s low ∙ ap member_as (sym (same s));
  outcome = h.outcome;
  involved = h.involved;
  prepared = h.prepared;
  unlisted = h.unlisted;
}

-- ---- one vote

-- before the first vote it is new, but for its outcome
record IsSo (home : Bool) (votes : ℕ → Option Prepared) (part : Participant) : Type 0 where
  engage : part.engage ≡ new_engage home
  asked : part.asked ≡ false
  places : length part.members ≡ 7
  members : (s : ℕ) → s < 7 → member_of part (server_at s) ≡ member_as (votes s)
  outcome : (home ≡ false) → part.outcome ≡ None
  unlisted : part.log.listed ≡ false

pub all_alike : {A : Type 0} (n s : ℕ) (x : A) → slice_index_or (replicate n x) s x ≡ x
all_alike zero s x = refl
all_alike (suc n) zero x = refl
all_alike (suc n) (suc s) x = all_alike n s x

new_so : (home : Bool) (votes : ℕ → Option Prepared) → ((s : ℕ) → votes s ≡ None) → IsSo home votes (new_participant home)
new_so home votes none = record { engage = refl; asked = refl; places = refl; members = λ s low. all_alike 7 s no_member ∙ ap member_as (sym (none s)); outcome = λ _. refl; unlisted = refl }

taken_so : (home : Bool) (votes : ℕ → Option Prepared) (part : Participant) → IsTaken home votes part → IsSo home votes part
taken_so home votes part h = record { engage = h.engage; asked = h.asked; places = h.places; members = h.members; outcome = away home h.outcome; unlisted = h.unlisted }
  where
    away : (b : Bool) → part.outcome ≡ outcome_before b → b ≡ false → part.outcome ≡ None
    away true is e = absurd (cc e)
    away false is e = is

-- the vote of this server is taken up
abbrev put_in : (ℕ → Option Prepared) → Prepared → ℕ → Option Prepared
put_in votes vote s = if vote.server.0 == s then Some vote else votes s

so_taken : (home : Bool) (votes : ℕ → Option Prepared) (vote : Prepared) (part : Participant) → vote.server.0 < 7 → IsSo home votes part → IsTaken home (put_in votes vote) (voted_before home vote.server vote.covers part)
so_taken home votes vote part low h = record {
  engage = h.engage;
  asked = h.asked;
  places = set_size vote.server.0 (member_as (Some vote)) part.members ∙ h.places;
  members = λ s small. by s small (vote.server.0 == s) refl;
  outcome = decided home h.outcome;
  involved = refl;
  prepared = refl;
  unlisted = h.unlisted;
}
  where
    decided : (b : Bool) → (b ≡ false → part.outcome ≡ None) → (if b then Some outcomes.Abort else part.outcome) ≡ outcome_before b
    decided true is = refl
    decided false is = is refl

    by : (s : ℕ) → s < 7 → (b : Bool) → (vote.server.0 == s) ≡ b → member_of (voted_before home vote.server vote.covers part) (server_at s) ≡ member_as (if b then Some vote else votes s)
    by s small true is = subst (λ (n : ℕ). member_of (voted_before home vote.server vote.covers part) (server_at n) ≡ member_as (Some vote)) (eqb-true vote.server.0 s is) (index_set part.members vote.server.0 (member_as (Some vote)) no_member (subst (λ (n : ℕ). vote.server.0 < n) (sym h.places) low))
    by s small false is = index_apart part.members vote.server.0 s (member_as (Some vote)) no_member (eqb-false vote.server.0 s is) ∙ h.members s small

-- ---- one record after another

module _ (tid : Tid) where
  vote_taken : (server : ServerNo) (covers : ℕ) (m : Manager)
      → tm.part_of tid (tm.take_up_vote tid server covers m) ≡ Some (voted_before (tm.is_home tid m) server covers (unwrap_or (tm.part_of tid m) (new_participant (tm.is_home tid m))))
  vote_taken server covers m = by (tm.part_of tid m) refl
    where
      f : Participant → Participant
      f = voted_before (tm.is_home tid m) server covers

      by : (o : Option Participant) → tm.part_of tid m ≡ o
          → tm.part_of tid (tm.with_part tid (voted_before (tm.is_home tid m) server covers) (if is_some o then m else tm.put_part tid (new_participant (tm.is_home tid m)) m)) ≡ Some (voted_before (tm.is_home tid m) server covers (unwrap_or o (new_participant (tm.is_home tid m))))
      by (Some part) known = lookup_changed (is_at (tid_cmp tid)) f m.known part known
      by None none = lookup_changed (is_at (tid_cmp tid)) f (insert_entry tid_cmp m.known tid (new_participant (tm.is_home tid m))) (new_participant (tm.is_home tid m)) (lookup_put tid_cmp tid (new_participant (tm.is_home tid m)) (tid_itself tid) m.known)

  -- its node stays
  pub node_taken : (rec : Record) (m : Manager) → (take_up m rec).node ≡ m.node
  node_taken (records.Prepare u server covers changes) m = by (tm.knows u m)
    where
      by : (b : Bool) → (if b then m else tm.put_part u (new_participant (tm.is_home u m)) m).node ≡ m.node
      by true = refl
      by false = refl
  node_taken (records.Commit u told) m = by (length told == 0)
    where
      by : (b : Bool) → (if b then m else tm.put_part u (committed_before (tm.is_home u m) told) m).node ≡ m.node
      by true = refl
      by false = refl
  node_taken (records.Aborted u) m = refl
  node_taken (records.End u) m = refl

  -- a vote of another leaves it
  vote_apart : (u : Tid) → Apart u tid → (server : ServerNo) (covers : ℕ) (m : Manager) → tm.part_of tid (tm.take_up_vote u server covers m) ≡ tm.part_of tid m
  vote_apart u far server covers m = changed_apart (is_at (tid_cmp u)) (is_at (tid_cmp tid)) far.keys (voted_before (tm.is_home u m) server covers) (tm.meet u m).known ∙ met (tm.knows u m)
    where
      met : (b : Bool) → tm.part_of tid (if b then m else tm.put_part u (new_participant (tm.is_home u m)) m) ≡ tm.part_of tid m
      met true = refl
      met false = lookup_put_apart tid_cmp u (new_participant (tm.is_home u m)) (λ x e. at_exact u x (rw e refl)) (is_at (tid_cmp tid)) far.at m.known

  abbrev Again : Bool → List Prepared → Type 0
  Again home votes = (m : Manager) (before : ℕ → Option Prepared) → tm.is_home tid m ≡ home → Taken home before (tm.part_of tid m) → Taken home (λ s. fold (last_doubt tid s) (before s) votes) (tm.part_of tid (fold take_up m (map prepare_of (filter is_in_doubt votes))))

  pub votes_taken : (home : Bool) (votes : List Prepared) (before : ℕ → Option Prepared) (m : Manager) → list_all (λ (v : Prepared). is_recoverable v.server.0) votes ≡ true → tm.is_home tid m ≡ home → Taken home before (tm.part_of tid m)
      → Taken home (λ s. fold (last_doubt tid s) (before s) votes) (tm.part_of tid (fold take_up m (map prepare_of (filter is_in_doubt votes))))
  votes_taken home [] before m may here h = h
  votes_taken home (v ∷ votes) before m may here h = by (is_in_doubt v) refl (same_or_apart v.tid tid) (λ m before here h. votes_taken home votes before m (and_parts (is_recoverable v.server.0) _ may).1 here h)
    where
      low : v.server.0 < 7
      low = small v.server.0 (and_parts (is_recoverable v.server.0) _ may).0
        where
          small : (n : ℕ) → is_recoverable n ≡ true → n < 7
          small n e = grind (arith, nat_tests, e)

      node_is : tm.is_home tid (take_up m (prepare_of v)) ≡ home
      node_is = ap (λ (k : NodeNo). same_node tid.home k) (node_taken (prepare_of v) m) ∙ here

      on : Again home votes → (m : Manager) → tm.is_home tid m ≡ home → (more : ℕ → Option Prepared) → ((s : ℕ) → last_doubt tid s (before s) v ≡ more s) → Taken home more (tm.part_of tid m)
          → Taken home (λ s. fold (last_doubt tid s) (last_doubt tid s (before s) v) votes) (tm.part_of tid (fold take_up m (map prepare_of (filter is_in_doubt votes))))
      on again m here more same h = again m (λ s. last_doubt tid s (before s) v) here (taken_alike home more (λ s. last_doubt tid s (before s) v) same (tm.part_of tid m) h)

      by : (b : Bool) → is_in_doubt v ≡ b → (v.tid ≡ tid) ⊎ Apart v.tid tid → Again home votes
          → Taken home (λ s. fold (last_doubt tid s) (last_doubt tid s (before s) v) votes) (tm.part_of tid (fold take_up m (map prepare_of (if b then v ∷ filter is_in_doubt votes else filter is_in_doubt votes))))
      by false clear same again = on again m here before (λ s. rw clear refl) h
      by true doubt (inr far) again = on again (take_up m (prepare_of v)) node_is before (λ s. rw (doubt, far.by) refl) (subst (Taken home before) (sym (vote_apart v.tid far v.server v.covers m)) h)
      by true doubt (inl same) again = on again (take_up m (prepare_of v)) node_is (put_in before v) (λ s. put_is s) (subst (λ (u : Tid). Taken home (put_in before v) (tm.part_of tid (tm.take_up_vote u v.server v.covers m))) (sym same) (subst (Taken home (put_in before v)) (sym now_is) (so_taken home before v (unwrap_or (tm.part_of tid m) (new_participant home)) low (so (tm.part_of tid m) h))))
        where
          now_is : tm.part_of tid (tm.take_up_vote tid v.server v.covers m) ≡ Some (voted_before home v.server v.covers (unwrap_or (tm.part_of tid m) (new_participant home)))
          now_is = subst (λ (b : Bool). tm.part_of tid (tm.take_up_vote tid v.server v.covers m) ≡ Some (voted_before b v.server v.covers (unwrap_or (tm.part_of tid m) (new_participant b)))) here (vote_taken v.server v.covers m)

          put_is : (s : ℕ) → last_doubt tid s (before s) v ≡ put_in before v s
          put_is s = rw (doubt, same, same_tid-self tid) refl

          so : (o : Option Participant) → Taken home before o → IsSo home before (unwrap_or o (new_participant home))
          so None none = new_so home before none
          so (Some part) is = taken_so home before part is

  -- ---- which are known

  -- it is as it was, or one of the votes in doubt is of it
  pub votes_known : (Q : Tid → Type 0) (votes : List Prepared) (m : Manager) → Every (λ (v : Prepared). is_in_doubt v ≡ true → Q v.tid) votes
      → (tm.part_of tid (fold take_up m (map prepare_of (filter is_in_doubt votes))) ≡ tm.part_of tid m) ⊎ Q tid
  votes_known Q [] m all = inl refl
  votes_known Q (v ∷ votes) m all = by (is_in_doubt v) refl (same_or_apart v.tid tid) (λ m. votes_known Q votes m all.1)
    where
      by : (b : Bool) → is_in_doubt v ≡ b → (v.tid ≡ tid) ⊎ Apart v.tid tid
          → ((m : Manager) → (tm.part_of tid (fold take_up m (map prepare_of (filter is_in_doubt votes))) ≡ tm.part_of tid m) ⊎ Q tid)
          → (tm.part_of tid (fold take_up m (map prepare_of (if b then v ∷ filter is_in_doubt votes else filter is_in_doubt votes))) ≡ tm.part_of tid m) ⊎ Q tid
      by false clear same more = more m
      by true doubt (inl same) more = inr (subst Q same (all.0 doubt))
      by true doubt (inr far) more = further (more (take_up m (prepare_of v)))
        where
          further : (tm.part_of tid (fold take_up (take_up m (prepare_of v)) (map prepare_of (filter is_in_doubt votes))) ≡ tm.part_of tid (take_up m (prepare_of v))) ⊎ Q tid
              → (tm.part_of tid (fold take_up (take_up m (prepare_of v)) (map prepare_of (filter is_in_doubt votes))) ≡ tm.part_of tid m) ⊎ Q tid
          further (inl same) = inl (same ∙ vote_apart v.tid far v.server v.covers m)
          further (inr q) = inr q
