-- A node that opens over an old log is sound.
use Rattle.qs_world_refine.proofs.Words.{◌≡◌, ℕ, ◌==◌, ◌&&◌, ◌||◌, not, Bool, true, false, List, [], ◌∷◌, ◌++◌, length, fold, Option, Some, None, is_some, refl, sym, ap, subst, ◌∙◌, arith, if◌then◌else◌, Global, list_all, lookup, set_value, insert_entry, is_at, Ordering, Less, Equal, Greater, nat_tests, tid_cmp, NodeNo, ServerNo, Tid, same_node, no_nodes, no_kept, is_recoverable, Record, changed_value, is_abort, voted_before, committed_before, aborted_participant, new_participant, needs_pass}
use Rattle.qs_world_refine.proofs.Words.{Manager, Participant, take_up, new_manager, opened_node, recovered_of, NodeValue, Setting, in_order, is_sound_part, is_sound_peer, is_sound_member, same_flag, where_so, not-true}
use Rattle.qs_base.specs.declared.identifiers.Outcome.TheVariants as outcomes
use Rattle.qs_engage.specs.Nodes.{all_nodes}
use Rattle.qs_record.specs.declared.record.Record.TheVariants as records
use Rattle.qs_tm.specs.Manager as tm
use Rattle.qs_tm.specs.Members.{all_servers}
use Rattle.qs_world_refine.proofs.Maps.{lookup_put}
use Rattle.qs_world_refine.proofs.NodeSets.{joined_length}
use Rattle.qs_world_refine.proofs.StartWorlds.{nobody}
use Rattle.qs_world_refine.proofs.SoundParts.{and_both, both_and, all_found, all_set, order_set}
use Rattle.qs_world_refine.proofs.SoundBegin.{all_put, order_put, all_implied}
use Rattle.qs_world_refine.proofs.SoundRequest.{no_pass}
use Rattle.qs_world_refine.proofs.SoundTell.{aborted_sound}
use Rattle.qs_world_refine.proofs.SoundViews.{PartSound, part_seen, part_as}
use Rattle.qs_world_refine.proofs.SoundVoted.{voted_part, voted_sound, voted_passes}

-- an entry that is put and then set is put so
set_put : (tid : Tid) (v w : Participant) (es : List (Tid × Participant)) → set_value (is_at (tid_cmp tid)) (insert_entry tid_cmp es tid v) w ≡ insert_entry tid_cmp es tid w
set_put tid v w [] = rw (self tid) refl
  where
    self : (t : Tid) → tid_cmp t t ≡ Equal
    self t = grind (arith, nat_tests)
set_put tid v w (e ∷ es) = by (tid_cmp tid e.0) refl (set_put tid v w es)
  where
    self : (t : Tid) → tid_cmp t t ≡ Equal
    self t = grind (arith, nat_tests)

    by : (r : Ordering) → tid_cmp tid e.0 ≡ r → set_value (is_at (tid_cmp tid)) (insert_entry tid_cmp es tid v) w ≡ insert_entry tid_cmp es tid w → set_value (is_at (tid_cmp tid)) (insert_entry tid_cmp (e ∷ es) tid v) w ≡ insert_entry tid_cmp (e ∷ es) tid w
    by Less is more = rw (is, self tid) refl
    by Equal is more = rw (is, is) refl
    by Greater is more = rw (is, is) (ap (λ (l : List (Tid × Participant)). e ∷ l) more)

-- ---- a node with nothing taken up

module _ (alloc : Global) (setting : Setting) where
  abbrev node : NodeValue
  node = opened_node alloc setting (recovered_of []) no_kept

  abbrev pub with_known : List (Tid × Participant) → Manager
  with_known es = record (new_manager alloc setting) { known = es }

  abbrev here : Tid → Tid → Bool
  here tid = is_at (tid_cmp tid)

  -- of which no pass is due, that has no list, and that is aborted at its home
  abbrev is_voted : Tid × Participant → Bool
  is_voted e = is_sound_part node e && ((not (needs_pass e.1) && not e.1.log.listed) && where_so e.1.engage.home (is_abort e.1.outcome))

  pub record Known (q : Tid × Participant → Bool) (m : Manager) : Type 0 where
    pub es : List (Tid × Participant)
    pub is : m ≡ with_known es
    pub ordered : in_order es ≡ true
    pub all : list_all q es ≡ true

  -- one that is as a vote finds it
  module _ (tid : Tid) (server : ServerNo) (covers : ℕ) (recoverable : is_recoverable server.0 ≡ true) (part : Participant) (passes : needs_pass part ≡ false) (unlisted : part.log.listed ≡ false)
      (aborted : where_so part.engage.home (is_abort part.outcome) ≡ true) (s : PartSound node tid part) where
    found_voted : is_voted (tid, voted_part node tid part server covers recoverable refl refl passes unlisted aborted s) ≡ true
    found_voted = both_and (is_sound_part node (tid, v)) _ (part_as node tid v (voted_sound node tid part server covers recoverable refl refl passes unlisted aborted s))
        (three (needs_pass v) part.log.listed (where_so part.engage.home (is_abort part.outcome)) (voted_passes node tid part server covers recoverable refl refl passes unlisted aborted s) unlisted aborted)
      where
        v : Participant
        v = voted_part node tid part server covers recoverable refl refl passes unlisted aborted s

        three : (a b c : Bool) → a ≡ false → b ≡ false → c ≡ true → ((not a && not b) && c) ≡ true
        three a b c x y z = rw (x, y, z) refl

    -- the rule makes just this
    pub voted_is : (h : Bool) → h ≡ part.engage.home → is_voted (tid, voted_before h server covers part) ≡ true
    voted_is true home = subst (λ (o : Option Rattle.qs_base.specs.declared.identifiers.Outcome.Outcome). is_voted (tid, record (voted_part node tid part server covers recoverable refl refl passes unlisted aborted s) { outcome = o }) ≡ true)
        (is_it part.outcome (at part.engage.home home aborted)) found_voted
      where
        at : (h : Bool) → true ≡ h → where_so h (is_abort part.outcome) ≡ true → is_abort part.outcome ≡ true
        at true is so = so
        at false is so = absurd (cc (is))

        is_it : (o : Option Rattle.qs_base.specs.declared.identifiers.Outcome.Outcome) → is_abort o ≡ true → o ≡ Some outcomes.Abort
        is_it None so = absurd (cc (so))
        is_it (Some outcomes.Commit) so = absurd (cc (so))
        is_it (Some outcomes.Abort) so = refl
    voted_is false home = found_voted

  -- ---- a Prepare is taken up

  nothing_due : (h : Bool) → needs_pass (aborted_participant h) ≡ false
  nothing_due h = not-true (needs_pass (aborted_participant h)) no_pass

  peers_heard : list_all (is_sound_peer node (new_participant false)) all_nodes ≡ true
  unfolding all_nodes
  peers_heard = refl

  members_heard : list_all (is_sound_member (new_participant false)) all_servers ≡ true
  unfolding all_servers
  members_heard = refl

  heard_sound : (tid : Tid) → same_node tid.home setting.node ≡ false → PartSound node tid (new_participant false)
  unfolding all_nodes
  heard_sound tid away = record {
    whole = refl;
    homed = rw away refl;
    peers = peers_heard;
    members = members_heard;
    superior = refl;
    outside = rw (nobody tid.home.0) refl;
    idle = no_pass;
    began = refl;
    logged = refl;
    silent = refl;
  }

  new_voted : (tid : Tid) (server : ServerNo) (covers : ℕ) → is_recoverable server.0 ≡ true → (h : Bool) → same_node tid.home setting.node ≡ h → is_voted (tid, voted_before h server covers (new_participant h)) ≡ true
  new_voted tid server covers recoverable true home = voted_is tid server covers recoverable (aborted_participant true) (nothing_due true) refl refl (aborted_sound node tid true home) true refl
  new_voted tid server covers recoverable false away = voted_is tid server covers recoverable (new_participant false) (nothing_due false) refl refl (heard_sound tid away) false refl

  known_voted : (tid : Tid) (server : ServerNo) (covers : ℕ) → is_recoverable server.0 ≡ true → (part : Participant) → is_voted (tid, part) ≡ true → is_voted (tid, voted_before (same_node tid.home setting.node) server covers part) ≡ true
  known_voted tid server covers recoverable part is =
      let both : (is_sound_part node (tid, part) ≡ true) × (((not (needs_pass part) && not part.log.listed) && where_so part.engage.home (is_abort part.outcome)) ≡ true) = and_both (is_sound_part node (tid, part)) _ is in
      let rest : ((not (needs_pass part) && not part.log.listed) ≡ true) × (where_so part.engage.home (is_abort part.outcome) ≡ true) = and_both (not (needs_pass part) && not part.log.listed) _ both.1 in
      let flags : (not (needs_pass part) ≡ true) × (not part.log.listed ≡ true) = and_both (not (needs_pass part)) (not part.log.listed) rest.0 in
      let s : PartSound node tid part = part_seen node tid part both.0 in
      voted_is tid server covers recoverable part (not-true (needs_pass part) flags.0) (not-true part.log.listed flags.1) rest.1 s (same_node tid.home setting.node) (same_as part.engage.home (same_node tid.home setting.node) s.homed)
    where
      same_as : (a b : Bool) → same_flag a b ≡ true → b ≡ a
      same_as true b so = so
      same_as false true so = absurd (cc (so))
      same_as false false so = refl

  take_vote : (tid : Tid) (server : ServerNo) (covers : ℕ) → is_recoverable server.0 ≡ true → (es : List (Tid × Participant)) → in_order es ≡ true → list_all is_voted es ≡ true → Known is_voted (tm.take_up_vote tid server covers (with_known es))
  take_vote tid server covers recoverable es ordered all = by (lookup (here tid) es) refl
    where
      f : Participant → Participant
      f = voted_before (same_node tid.home setting.node) server covers

      by : (o : Option Participant) → lookup (here tid) es ≡ o
          → Known is_voted (tm.with_part tid (voted_before (same_node tid.home setting.node) server covers) (if is_some o then with_known es else tm.put_part tid (new_participant (same_node tid.home setting.node)) (with_known es)))
      by (Some part) known = record {
        es = set_value (here tid) es (voted_before (same_node tid.home setting.node) server covers part);
        is = ap (λ (o : Option Participant). with_known (elim o [ None ↦ es | Some v ↦ set_value (here tid) es (voted_before (same_node tid.home setting.node) server covers v) ])) known;
        ordered = order_set (here tid) es (voted_before (same_node tid.home setting.node) server covers part) ∙ ordered;
        all = all_set tid is_voted es (voted_before (same_node tid.home setting.node) server covers part) (known_voted tid server covers recoverable part (all_found tid is_voted es part known all)) all;
      }
      by None none = record {
        es = insert_entry tid_cmp es tid (voted_before (same_node tid.home setting.node) server covers (new_participant (same_node tid.home setting.node)));
        is = ap (λ (o : Option Participant). with_known (elim o [ None ↦ insert_entry tid_cmp es tid (new_participant (same_node tid.home setting.node)) | Some v ↦ set_value (here tid) (insert_entry tid_cmp es tid (new_participant (same_node tid.home setting.node))) (voted_before (same_node tid.home setting.node) server covers v) ]))
            (lookup_put tid_cmp tid (new_participant (same_node tid.home setting.node)) (grind (arith, nat_tests)) es)
            ∙ ap with_known_as (set_put tid (new_participant (same_node tid.home setting.node)) (voted_before (same_node tid.home setting.node) server covers (new_participant (same_node tid.home setting.node))) es);
        ordered = order_put tid (voted_before (same_node tid.home setting.node) server covers (new_participant (same_node tid.home setting.node))) es ordered;
        all = all_put tid (voted_before (same_node tid.home setting.node) server covers (new_participant (same_node tid.home setting.node))) is_voted es (new_voted tid server covers recoverable (same_node tid.home setting.node) refl) all;
      }
        where
          with_known_as : List (Tid × Participant) → Manager
          with_known_as l = with_known l

  abbrev pub is_vote : Record → Bool
  is_vote (records.Prepare tid server covers changes) = is_recoverable server.0
  is_vote (records.Commit tid told) = false
  is_vote (records.Aborted tid) = false
  is_vote (records.End tid) = false

  vote_taken : (rec : Record) (m : Manager) → is_vote rec ≡ true → Known is_voted m → Known is_voted (take_up m rec)
  vote_taken (records.Prepare tid server covers changes) m its k = subst (λ (x : Manager). Known is_voted (tm.take_up_vote tid server covers x)) (sym k.is) (take_vote tid server covers its k.es k.ordered k.all)
  vote_taken (records.Commit tid told) m its k = absurd (cc (its))
  vote_taken (records.Aborted tid) m its k = absurd (cc (its))
  vote_taken (records.End tid) m its k = absurd (cc (its))

  pub votes_taken : (recs : List Record) (m : Manager) → list_all is_vote recs ≡ true → Known is_voted m → Known is_voted (fold take_up m recs)
  votes_taken [] m all k = k
  votes_taken (rec ∷ recs) m all k =
      let both : (is_vote rec ≡ true) × (list_all is_vote recs ≡ true) = and_both (is_vote rec) (list_all is_vote recs) all in
      votes_taken recs (take_up m rec) both.1 (vote_taken rec m both.0 k)

  -- ---- a Commit with a list is taken up

  committed_peers : (told : List NodeNo) → list_all (is_sound_peer node (committed_before true told)) all_nodes ≡ true
  unfolding all_nodes
  committed_peers told = refl

  committed_members : (told : List NodeNo) → list_all (is_sound_member (committed_before true told)) all_servers ≡ true
  unfolding all_servers
  committed_members told = refl

  committed_sound : (tid : Tid) (told : List NodeNo) → same_node tid.home setting.node ≡ true → PartSound node tid (committed_before true told)
  unfolding all_nodes
  committed_sound tid told home = record {
    whole = rw (joined_length told no_nodes) refl;
    homed = rw home refl;
    peers = committed_peers told;
    members = committed_members told;
    superior = refl;
    outside = rw (nobody tid.home.0) refl;
    idle = refl;
    began = refl;
    logged = refl;
    silent = refl;
  }

  abbrev pub is_commit : Record → Bool
  is_commit (records.Prepare tid server covers changes) = false
  is_commit (records.Commit tid told) = (length told == 0) || same_node tid.home setting.node
  is_commit (records.Aborted tid) = false
  is_commit (records.End tid) = false

  take_commit : (tid : Tid) (told : List NodeNo) → ((length told == 0) || same_node tid.home setting.node) ≡ true → (es : List (Tid × Participant)) → in_order es ≡ true → list_all (is_sound_part node) es ≡ true
      → Known (is_sound_part node) (tm.take_up_commit tid told (with_known es))
  take_commit tid told its es ordered all = by (length told == 0) (same_node tid.home setting.node) refl its
    where
      by : (b h : Bool) → same_node tid.home setting.node ≡ h → (b || h) ≡ true → Known (is_sound_part node) (if b then with_known es else tm.put_part tid (committed_before h told) (with_known es))
      by true h at so = record { es = es; is = refl; ordered = ordered; all = all }
      by false false at so = absurd (cc (so))
      by false true at so = record {
        es = insert_entry tid_cmp es tid (committed_before true told);
        is = refl;
        ordered = order_put tid (committed_before true told) es ordered;
        all = all_put tid (committed_before true told) (is_sound_part node) es (part_as node tid (committed_before true told) (committed_sound tid told at)) all;
      }

  commit_taken : (rec : Record) (m : Manager) → is_commit rec ≡ true → Known (is_sound_part node) m → Known (is_sound_part node) (take_up m rec)
  commit_taken (records.Prepare tid server covers changes) m its k = absurd (cc (its))
  commit_taken (records.Commit tid told) m its k = subst (λ (x : Manager). Known (is_sound_part node) (tm.take_up_commit tid told x)) (sym k.is) (take_commit tid told its k.es k.ordered k.all)
  commit_taken (records.Aborted tid) m its k = absurd (cc (its))
  commit_taken (records.End tid) m its k = absurd (cc (its))

  pub commits_taken : (recs : List Record) (m : Manager) → list_all is_commit recs ≡ true → Known (is_sound_part node) m → Known (is_sound_part node) (fold take_up m recs)
  commits_taken [] m all k = k
  commits_taken (rec ∷ recs) m all k =
      let both : (is_commit rec ≡ true) × (list_all is_commit recs ≡ true) = and_both (is_commit rec) (list_all is_commit recs) all in
      commits_taken recs (take_up m rec) both.1 (commit_taken rec m both.0 k)

  fold_both : (xs ys : List Record) (m : Manager) → fold take_up m (xs ++ ys) ≡ fold take_up (fold take_up m xs) ys
  fold_both [] ys m = refl
  fold_both (x ∷ xs) ys m = fold_both xs ys (take_up m x)

  -- all of it
  pub all_taken : (votes commits : List Record) → list_all is_vote votes ≡ true → list_all is_commit commits ≡ true → Known (is_sound_part node) (fold take_up (new_manager alloc setting) (votes ++ commits))
  all_taken votes commits all_votes all_commits = subst (Known (is_sound_part node)) (sym (fold_both votes commits (new_manager alloc setting)))
      (commits_taken commits (fold take_up (new_manager alloc setting) votes) all_commits (less (votes_taken votes (new_manager alloc setting) all_votes (record { es = []; is = refl; ordered = refl; all = refl }))))
    where
      less : {m : Manager} → Known is_voted m → Known (is_sound_part node) m
      less k = record { es = k.es; is = k.is; ordered = k.ordered; all = all_implied is_voted (is_sound_part node) (λ e so. (and_both (is_sound_part node e) _ so).0) k.es k.all }
