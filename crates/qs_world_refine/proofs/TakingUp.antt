-- What a node that opens over its log knows of one transaction: its votes in doubt, and a Commit that is still to be told.
use Rattle.qs_world_refine.proofs.Words.{◌≡◌, ℕ, ◌-◌, ◌<◌, ◌==◌, ◌||◌, not, Bool, true, false, List, [], ◌∷◌, ◌++◌, length, map, fold, Option, Some, None, is_some, unwrap_or, refl, sym, ap, subst, ◌∙◌, arith, if◌then◌else◌, filter, list_all, list_any, insert_entry, is_at, Equal, nat_tests, length-set, fold-append, same_tid, tid_cmp, NodeNo, ServerNo, Tid, new_engage, no_nodes, same_node, is_recoverable, Record, Prepared, Untold, Recovery, names_transaction, is_untold_of, prepare_of, commit_of}
use Rattle.qs_world_refine.proofs.Words.{in_doubt, untold, no_member, voted_before, committed_before, new_participant, member_of, Manager, Participant, take_up, uncast_of, server_no, may_vote, is_of_other, false-or, and_parts}
use Rattle.qs_base.specs.declared.identifiers.Outcome.TheVariants as outcomes
use Rattle.qs_record.specs.declared.record.Record.TheVariants as records
use Rattle.qs_restart.specs.Recovery as restart
use Rattle.qs_tm.specs.Manager as tm
use Rattle.qs_world_refine.proofs.Arrays.{member_put}
use Rattle.qs_world_refine.proofs.Doubts.{is_doubt_of}
use Rattle.qs_world_refine.proofs.Maps.{lookup_changed, lookup_put}
use Rattle.qs_world_refine.proofs.SoundKnown.{same_is}
use Rattle.qs_world_refine.proofs.StartLogs.{taken_apart}
use Rattle.qs_world_refine.proofs.StartWorlds.{alike_at}

-- ---- a participant that was taken up from votes

-- nothing came and nothing was sent, and all that was served is voted for
pub record IsBare (home : Bool) (part : Participant) : Type 0 where
  pub engage : part.engage ≡ new_engage home
  pub asked : part.asked ≡ false
  pub told : part.told ≡ no_nodes
  pub tell : part.tell ≡ no_nodes
  pub places : length part.members ≡ 7
  pub uncast : (s : ℕ) → uncast_of (member_of part (server_no s)) ≡ 0
  pub unknown : home ≡ false → part.outcome ≡ None
  pub unlisted : part.log.listed ≡ false
  pub acknowledged : part.acknowledged ≡ no_nodes

pub record IsVoted (home : Bool) (part : Participant) : Type 0 where
  pub bare : IsBare home part
  pub involved : part.involved ≡ true
  pub prepared : part.log.prepared ≡ true
  pub aborted : home ≡ true → part.outcome ≡ Some outcomes.Abort

new_bare : (home : Bool) → IsBare home (new_participant home)
new_bare home = record { engage = refl; asked = refl; told = refl; tell = refl; places = refl; uncast = λ s. ap uncast_of (alike_at 7 s no_member); unknown = λ _. refl; unlisted = refl; acknowledged = refl }

voted_bare : (home : Bool) (server : ServerNo) (covers : ℕ) (part : Participant) → is_recoverable server.0 ≡ true → IsBare home part → IsVoted home (voted_before home server covers part)
voted_bare home server covers part recoverable b = record {
  bare = record {
    engage = b.engage;
    asked = b.asked;
    told = b.told;
    tell = b.tell;
    places = length-set part.members server.0 _ ∙ b.places;
    uncast = λ s. ap uncast_of (member_put server.0 s _ part low) ∙ by s (s == server.0);
    unknown = λ away. outcome_away home away (b.unknown away);
    unlisted = b.unlisted;
    acknowledged = b.acknowledged;
  };
  involved = refl;
  prepared = refl;
  aborted = λ here. outcome_here home here;
}
  where
    low : server.0 < length part.members
    low = rw b.places (grind (arith, nat_tests, recoverable))

    none_left : (k : ℕ) → k - k ≡ 0
    none_left k = omega (arith)

    by : (s : ℕ) (c : Bool) → uncast_of (if c then record { served = covers; fresh = true; vote = Some (record { ballot = Rattle.qs_tm.specs.declared.members.Ballot.TheVariants.Recoverable; covers = covers }) } else member_of part (server_no s)) ≡ 0
    by s true = none_left covers
    by s false = b.uncast s

    outcome_away : (h : Bool) → h ≡ false → part.outcome ≡ None → (if h then Some outcomes.Abort else part.outcome) ≡ None
    outcome_away h is none = rw is none

    outcome_here : (h : Bool) → h ≡ true → (if h then Some outcomes.Abort else part.outcome) ≡ Some outcomes.Abort
    outcome_here h is = rw is refl

-- ---- one record after another

module _ (tid : Tid) where
  self : tid_cmp tid tid ≡ Equal
  self = grind (arith, nat_tests)

  -- a vote of the transaction
  vote_taken : (server : ServerNo) (covers : ℕ) (m : Manager)
      → tm.part_of tid (tm.take_up_vote tid server covers m) ≡ Some (voted_before (tm.is_home tid m) server covers (unwrap_or (tm.part_of tid m) (new_participant (tm.is_home tid m))))
  vote_taken server covers m = by (tm.part_of tid m) refl
    where
      f : Participant → Participant
      f = voted_before (tm.is_home tid m) server covers

      by : (o : Option Participant) → tm.part_of tid m ≡ o
          → tm.part_of tid (tm.with_part tid (voted_before (tm.is_home tid m) server covers) (if is_some o then m else tm.put_part tid (new_participant (tm.is_home tid m)) m)) ≡ Some (voted_before (tm.is_home tid m) server covers (unwrap_or o (new_participant (tm.is_home tid m))))
      by (Some part) known = lookup_changed (is_at (tid_cmp tid)) f m.known part known
      by None none = lookup_changed (is_at (tid_cmp tid)) f (insert_entry tid_cmp m.known tid (new_participant (tm.is_home tid m))) (new_participant (tm.is_home tid m)) (lookup_put tid_cmp tid (new_participant (tm.is_home tid m)) self m.known)

  -- what is known after some votes, of which one was of the transaction or none
  abbrev pub Voted : Bool → Bool → Manager → Type 0
  Voted home false m = tm.part_of tid m ≡ None
  Voted home true m = (part : Participant) × (tm.part_of tid m ≡ Some part) × IsVoted home part

  voted_more : (home seen : Bool) (m : Manager) → tm.is_home tid m ≡ home → (server : ServerNo) (covers : ℕ) → is_recoverable server.0 ≡ true → Voted home seen m → Voted home true (tm.take_up_vote tid server covers m)
  voted_more home seen m here server covers recoverable v = by seen v
    where
      known : (o : Option Participant) → tm.part_of tid m ≡ o → tm.part_of tid (tm.take_up_vote tid server covers m) ≡ Some (voted_before home server covers (unwrap_or o (new_participant home)))
      known o is = vote_taken server covers m ∙ rw (is, here) refl

      by : (seen : Bool) → Voted home seen m → Voted home true (tm.take_up_vote tid server covers m)
      by false none = (voted_before home server covers (new_participant home), known None none, voted_bare home server covers (new_participant home) recoverable (new_bare home))
      by true found = (voted_before home server covers found.0, known (Some found.0) found.1, voted_bare home server covers found.0 recoverable found.2.bare)

  -- its node stays
  pub node_taken : (rec : Record) (m : Manager) → (take_up m rec).node ≡ m.node
  node_taken (records.Prepare u server covers changes) m = by (tm.knows u m)
    where
      by : (b : Bool) → (if b then m else tm.put_part u (new_participant (tm.is_home u m)) m).node ≡ m.node
      by true = refl
      by false = refl
  node_taken (records.Commit u told) m = by (length told == 0)
    where
      by : (b : Bool) → (if b then m else tm.put_part u (committed_before (tm.is_home u m) told) m).node ≡ m.node
      by true = refl
      by false = refl
  node_taken (records.Aborted u) m = refl
  node_taken (records.End u) m = refl

  votes_taken : (home : Bool) → names_transaction tid ≡ true → (votes : List Prepared) (seen : Bool) (m : Manager) → list_all may_vote votes ≡ true → tm.is_home tid m ≡ home → Voted home seen m
      → Voted home (seen || list_any (is_doubt_of tid) votes) (fold take_up m (map prepare_of (filter restart.is_in_doubt votes)))
  votes_taken home numbered [] seen m may here v = subst (λ (b : Bool). Voted home b m) (false-or seen) v
  votes_taken home numbered (v ∷ votes) seen m may here is = by (same_tid v.tid tid) (restart.is_in_doubt v) refl refl (λ seen m here is. votes_taken home numbered votes seen m (and_parts (may_vote v) (list_all may_vote votes) may).1 here is)
    where
      node_is : tm.is_home tid (take_up m (prepare_of v)) ≡ home
      node_is = ap (λ (k : NodeNo). same_node tid.home k) (node_taken (prepare_of v) m) ∙ here

      or_first : (s a t : Bool) → a ≡ true → (true || t) ≡ (s || (a || t))
      or_first true a t so = refl
      or_first false a t so = rw so refl

      or_none : (s a t : Bool) → a ≡ false → (s || t) ≡ (s || (a || t))
      or_none s a t so = rw so refl

      by : (a b : Bool) → same_tid v.tid tid ≡ a → restart.is_in_doubt v ≡ b
          → ((seen : Bool) (m : Manager) → tm.is_home tid m ≡ home → Voted home seen m → Voted home (seen || list_any (is_doubt_of tid) votes) (fold take_up m (map prepare_of (filter restart.is_in_doubt votes))))
          → Voted home (seen || (is_doubt_of tid v || list_any (is_doubt_of tid) votes)) (fold take_up m (map prepare_of (if b then v ∷ filter restart.is_in_doubt votes else filter restart.is_in_doubt votes)))
      by true true same stands again = subst (λ (b : Bool). Voted home b (fold take_up (take_up m (prepare_of v)) (map prepare_of (filter restart.is_in_doubt votes)))) (or_first seen (is_doubt_of tid v) (list_any (is_doubt_of tid) votes) doubt)
          (again true (take_up m (prepare_of v)) node_is (subst (λ (t : Tid). Voted home true (tm.take_up_vote t v.server v.covers m)) (sym (same_is v.tid tid same)) (voted_more home seen m here v.server v.covers (and_parts (may_vote v) (list_all may_vote votes) may).0 is)))
        where
          doubt : is_doubt_of tid v ≡ true
          doubt = grind (arith, nat_tests, same, stands)
      by true false same shut again = subst (λ (b : Bool). Voted home b (fold take_up m (map prepare_of (filter restart.is_in_doubt votes)))) (or_none seen (is_doubt_of tid v) (list_any (is_doubt_of tid) votes) clear) (again seen m here is)
        where
          clear : is_doubt_of tid v ≡ false
          clear = grind (arith, nat_tests, same, shut, numbered)
      by false true apart stands again = subst (λ (b : Bool). Voted home b (fold take_up (take_up m (prepare_of v)) (map prepare_of (filter restart.is_in_doubt votes)))) (or_none seen (is_doubt_of tid v) (list_any (is_doubt_of tid) votes) clear)
          (again seen (take_up m (prepare_of v)) node_is (kept seen is))
        where
          clear : is_doubt_of tid v ≡ false
          clear = rw apart refl

          other : is_of_other tid (prepare_of v) ≡ true
          other = grind (arith, nat_tests, apart)

          kept : (seen : Bool) → Voted home seen m → Voted home seen (take_up m (prepare_of v))
          kept false none = taken_apart tid (prepare_of v) m other ∙ none
          kept true found = (found.0, taken_apart tid (prepare_of v) m other ∙ found.1, found.2)
      by false false apart shut again = subst (λ (b : Bool). Voted home b (fold take_up m (map prepare_of (filter restart.is_in_doubt votes)))) (or_none seen (is_doubt_of tid v) (list_any (is_doubt_of tid) votes) clear) (again seen m here is)
        where
          clear : is_doubt_of tid v ≡ false
          clear = rw apart refl

  pub nodes_taken : (recs : List Record) (m : Manager) → (fold take_up m recs).node ≡ m.node
  nodes_taken [] m = refl
  nodes_taken (rec ∷ recs) m = nodes_taken recs (take_up m rec) ∙ node_taken rec m

  -- ---- Commits that are still to be told

  abbrev pub has_list : Untold → Bool
  has_list commit = not (length commit.told == 0)

  -- known by one of these, or as before
  abbrev pub Told : Bool → Bool → Manager → Manager → Type 0
  Told home false m new = tm.part_of tid new ≡ tm.part_of tid m
  Told home true m new = (told : List NodeNo) × (tm.part_of tid new ≡ Some (committed_before home told))

  told_taken : (home : Bool) → names_transaction tid ≡ true → (commits : List Untold) (seen : Bool) (first m : Manager) → list_all has_list commits ≡ true → tm.is_home tid m ≡ home → Told home seen first m
      → Told home (seen || list_any (is_untold_of tid) commits) first (fold take_up m (map commit_of (filter (λ (commit : Untold). names_transaction commit.tid) commits)))
  told_taken home numbered [] seen start m all here is = subst (λ (b : Bool). Told home b start m) (false-or seen) is
  told_taken home numbered (c ∷ commits) seen start m all here is = by (is_untold_of tid c) (names_transaction c.tid) refl refl (λ seen m here is. told_taken home numbered commits seen start m (and_parts (has_list c) (list_all has_list commits) all).1 here is)
    where
      node_is : tm.is_home tid (take_up m (commit_of c)) ≡ home
      node_is = ap (λ (k : NodeNo). same_node tid.home k) (node_taken (commit_of c) m) ∙ here

      or_first : (s t : Bool) → (true || t) ≡ (s || (true || t))
      or_first true t = refl
      or_first false t = refl

      by : (a b : Bool) → is_untold_of tid c ≡ a → names_transaction c.tid ≡ b
          → ((seen : Bool) (m : Manager) → tm.is_home tid m ≡ home → Told home seen start m → Told home (seen || list_any (is_untold_of tid) commits) start (fold take_up m (map commit_of (filter (λ (commit : Untold). names_transaction commit.tid) commits))))
          → Told home (seen || (a || list_any (is_untold_of tid) commits)) start (fold take_up m (map commit_of (if b then c ∷ filter (λ (commit : Untold). names_transaction commit.tid) commits else filter (λ (commit : Untold). names_transaction commit.tid) commits)))
      by true false same off again = absurd (let is_it : c.tid ≡ tid = same_is c.tid tid same in let so : names_transaction c.tid ≡ true = subst (λ (t : Tid). names_transaction t ≡ true) (sym is_it) numbered in cc (so, off))
      by true true same on again = subst (λ (b : Bool). Told home b start (fold take_up (take_up m (commit_of c)) (map commit_of (filter (λ (commit : Untold). names_transaction commit.tid) commits)))) (or_first seen (list_any (is_untold_of tid) commits))
          (again true (take_up m (commit_of c)) node_is (c.told, put (length c.told == 0) (and_parts (has_list c) (list_all has_list commits) all).0))
        where
          put : (b : Bool) → not b ≡ true → tm.part_of tid (if b then m else tm.put_part c.tid (committed_before (tm.is_home c.tid m) c.told) m) ≡ Some (committed_before home c.told)
          put true so = absurd (cc (so))
          put false so = rw (same_is c.tid tid same, here) (lookup_put tid_cmp tid (committed_before home c.told) self m.known)
      by false true apart on again = again seen (take_up m (commit_of c)) node_is (kept seen is)
        where
          other : is_of_other tid (commit_of c) ≡ true
          other = grind (arith, nat_tests, apart)

          kept : (seen : Bool) → Told home seen start m → Told home seen start (take_up m (commit_of c))
          kept false same = taken_apart tid (commit_of c) m other ∙ same
          kept true found = (found.0, taken_apart tid (commit_of c) m other ∙ found.1)
      by false false apart off again = again seen m here is

  -- ---- all of a log

  abbrev pub Known : Bool → Bool → Bool → Manager → Type 0
  Known home true doubt m = (told : List NodeNo) × (tm.part_of tid m ≡ Some (committed_before home told))
  Known home false doubt m = Voted home doubt m

  pub log_taken : (home : Bool) → names_transaction tid ≡ true → (said : Recovery) (m : Manager) → list_all may_vote said.prepared ≡ true → list_all has_list said.untold ≡ true → tm.is_home tid m ≡ home → tm.part_of tid m ≡ None
      → Known home (list_any (is_untold_of tid) said.untold) (list_any (is_doubt_of tid) said.prepared) (fold take_up m (in_doubt said ++ untold said))
  log_taken home numbered said m may lists here none = subst (λ (x : Manager). Known home (list_any (is_untold_of tid) said.untold) (list_any (is_doubt_of tid) said.prepared) x) (sym (fold-append take_up m (in_doubt said) (untold said)))
      (by (list_any (is_untold_of tid) said.untold) (told_taken home numbered said.untold false between between lists (ap (λ (k : NodeNo). same_node tid.home k) (nodes_taken (in_doubt said) m) ∙ here) refl))
    where
      between : Manager
      between = fold take_up m (in_doubt said)

      votes : Voted home (list_any (is_doubt_of tid) said.prepared) between
      votes = votes_taken home numbered said.prepared false m may here none

      same_known : (b : Bool) (a c : Manager) → tm.part_of tid c ≡ tm.part_of tid a → Voted home b a → Voted home b c
      same_known false a c same is = same ∙ is
      same_known true a c same is = (is.0, same ∙ is.1, is.2)

      by : (a : Bool) → Told home a between (fold take_up between (untold said)) → Known home a (list_any (is_doubt_of tid) said.prepared) (fold take_up between (untold said))
      by true found = found
      by false same = same_known (list_any (is_doubt_of tid) said.prepared) between (fold take_up between (untold said)) same votes
