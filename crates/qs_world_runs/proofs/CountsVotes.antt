-- A vote goes with how much its server served, and its Prepare covers as much; and what a rule makes known or forgets leaves the rest: so counts only grow through all that a step does.
use Rattle.qs_world_runs.proofs.Words.{◌≡◌, ℕ, ◌<◌, ◌≤◌, Bool, true, false, [], ◌∷◌, Option, Some, None, length, refl, sym, ap, subst, ◌∙◌, le_refl, is_at, tid_exact, or-true, same_tid-true, same_tid, tid_cmp, ServerNo, Tid, after_vote, changes_in, Vote, Record, server_at, member_here, tid_of, Work, change_server, with_doings, with_manager, enter_vote, served_count, vote_with, ballot_of, member_of, with_member, MemberPart, Participant, forget_apart, is_kept, or_left, same_Some, some_same}
use Rattle.qs_world_runs.proofs.Words.{le_le, zero_le}
use Rattle.qs_book_laws.proofs.Maps.{lookup_changed}
use Rattle.qs_ops.specs.declared.vote.Vote.TheVariants as votes
use Rattle.qs_record.specs.declared.record.Record.TheVariants as made
use Rattle.qs_node_step.specs.Bringing.{log}
use Rattle.qs_node_step.specs.State.{part_of}
use Rattle.qs_tm.specs.Manager as tm
use Rattle.qs_tm.specs.Members.{is_binding}
use Rattle.qs_tm.specs.Outcomes as outcome_rules
use Rattle.qs_tm.specs.Participant as participant
use Rattle.qs_world_refine.proofs.Others.{put_apart}
use Rattle.qs_world_lawful.proofs.Parts.{set_size, with_own}
use Rattle.qs_world_runs.proofs.FewShares.{each_found, each_left, each_put}
use Rattle.qs_world_runs.proofs.Goes.{Goes, is_prepare}
use Rattle.qs_world_runs.proofs.RecordRules.{covers_same}
use Rattle.qs_world_runs.proofs.CountsOn.{Ahead, AreSized, Counts, IsAheadAt, IsCastIn, IsLater, ahead_steady, ahead_with, both_count, changed_count, keeps_changed, kept_is, one_server, part_count, quiet_count, served_count_on, settled_count, sized_changed, still_count}

module _ (t : Tid) (s : ServerNo) (low : s.0 < 7) where
  -- ---- a vote

  module _ (tid : Tid) (server : ServerNo) (ballot : Vote) (work : Work) where
    abbrev covers : ℕ
    covers = served_count tid server work

    abbrev voting : Participant → Participant
    voting = participant.voted (member_here work server) ballot covers

    abbrev changed : Work
    changed = change_server server (λ value. after_vote value tid ballot) work

    covers_are : (p : Participant) → part_of tid work ≡ Some p → covers ≡ (member_of p server).served
    covers_are p known = ap (λ (o : Option Participant). elim o [ None ↦ 0 | Some x ↦ (member_of x server).served ]) known

    abbrev cast_now : Participant → MemberPart
    cast_now p = record (member_of p server) { vote = Some (record { ballot = ballot_of ballot; covers = covers }) }

    voting_size : (p : Participant) → length (voting p).members ≡ length p.members
    voting_size p = set_size server.0 (cast_now p) p.members

    own_vote : (p : Participant) → part_of tid changed ≡ Some p → same_tid t tid ≡ true → (c z : ℕ) → Ahead t s low c z p → Ahead t s low c z (voting p)
    own_vote p known same c z a = ahead_with t s low server (cast_now p) p (voting p) refl (or_left p.involved (is_binding (ballot_of ballot))) c z a later
      where
        later : server ≡ s → IsLater t s low c z (cast_now p)
        later e = let is : covers ≡ (member_of p s).served = covers_are p known ∙ ap (λ (x : ServerNo). (member_of p x).served) e in record {
          cast = record { ballot = ballot_of ballot; covers = covers };
          vote = refl;
          least = subst (λ (n : ℕ). c ≤ n) (sym is) (le_le c a.cast.covers (member_of p s).served a.least a.most);
          most = subst (λ (n : ℕ). covers ≤ n) (covers_are p known) (le_refl covers);
          more = subst (λ (x : ServerNo). z ≤ (member_of p x).served) (sym e) a.more;
        }

    entered_count : Counts t s low work (enter_vote tid server ballot work)
    entered_count =
        let counted : Work = with_manager (tm.voted tid (member_here work server) ballot covers) changed in
        both_count t s low work changed (enter_vote tid server ballot work) (still_count t s low work changed refl refl)
        (both_count t s low changed counted (enter_vote tid server ballot work) (changed_count t s low tid voting changed own_vote voting_size) (still_count t s low counted (enter_vote tid server ballot work) refl refl))

  -- ---- one more record

  log_keeps : (rec : Record) (work : Work) (c z : ℕ) → IsAheadAt t s low c z work → IsAheadAt t s low c z (log rec work)
  log_keeps rec work c z ahead = let a : IsAheadAt t s low c z (with_manager (tm.with_part (tid_of rec) (outcome_rules.logged rec)) work) = keeps_changed t s low (tid_of rec) (outcome_rules.logged rec) work (λ p known same c z a. ahead_steady t s low p (outcome_rules.logged rec p) (record { members = refl; involved = λ is. is }) c z a) c z ahead in record { part = a.part; known = a.known; ahead = a.ahead }

  log_sized : (rec : Record) (work : Work) → AreSized t s low work → AreSized t s low (log rec work)
  log_sized rec work all = sized_changed t s low (tid_of rec) (outcome_rules.logged rec) work (λ p. refl) all

  log_count : (rec : Record) (work : Work) → is_prepare rec ≡ false → Counts t s low work (log rec work)
  log_count rec work plain = record { made = rec ∷ []; records = refl; keeps = log_keeps rec work; sized = log_sized rec work; votes = λ all. (of rec plain, tt) }
    where
      of : (r : Record) → is_prepare r ≡ false → IsCastIn t s low work (log rec work) r
      of (made.Prepare tid server covers changes) e = absurd (cc e)
      of (made.Commit tid told) e = tt
      of (made.Aborted tid) e = tt
      of (made.End tid) e = tt

  -- ---- a vote with its Prepare

  module _ (tid : Tid) (server : ServerNo) (work : Work) (part : Participant) (known : part_of tid work ≡ Some part) where
    abbrev voted : Work
    voted = enter_vote tid server votes.Recoverable work

    abbrev noted : Work
    noted = with_doings tid (λ doings. record doings { prepared = true }) voted

    abbrev rec : Record
    rec = made.Prepare tid server (served_count tid server voted) (changes_in (server_at voted.node.servers server) tid)

    abbrev new : Work
    new = log rec noted

    first : Counts t s low work noted
    first = both_count t s low work voted noted (entered_count tid server votes.Recoverable work) (still_count t s low voted noted refl refl)

    same_covers : served_count tid server voted ≡ (member_of part server).served
    same_covers = covers_same tid server votes.Recoverable work ∙ covers_are tid server votes.Recoverable work part known

    now : part_of tid new ≡ Some (outcome_rules.logged rec (voting tid server votes.Recoverable work part))
    now = lookup_changed (is_at (tid_cmp tid)) (outcome_rules.logged rec) noted.node.manager.known (voting tid server votes.Recoverable work part) (lookup_changed (is_at (tid_cmp tid)) (voting tid server votes.Recoverable work) work.node.manager.known part known)

    cast_so : AreSized t s low work → IsCastIn t s low work new rec
    cast_so all its at = (
      record {
        part = outcome_rules.logged rec (voting tid server votes.Recoverable work part);
        known = subst (λ (x : Tid). part_of x new ≡ Some (outcome_rules.logged rec (voting tid server votes.Recoverable work part))) tid_is now;
        ahead = record {
          sized = voting_size tid server votes.Recoverable work part ∙ sized_part;
          involved = or-true part.involved;
          cast = record { ballot = ballot_of votes.Recoverable; covers = served_count tid server work };
          vote = ap (λ (m : MemberPart). m.vote) member_now;
          least = subst (λ (n : ℕ). n ≤ served_count tid server work) (sym (covers_same tid server votes.Recoverable work)) (le_refl (served_count tid server work));
          most = subst (λ (m : MemberPart). served_count tid server work ≤ m.served) (sym member_now) (subst (λ (n : ℕ). served_count tid server work ≤ n) (covers_are tid server votes.Recoverable work part known) (le_refl (served_count tid server work)));
          more = zero_le _;
        };
      },
      λ c z ahead. let same : ahead.part ≡ part = same_Some ahead.part part (sym ahead.known ∙ subst (λ (x : Tid). part_of x work ≡ Some part) tid_is known) in
          subst (λ (n : ℕ). z ≤ n) (sym (same_covers ∙ ap (λ (x : ServerNo). (member_of part x).served) server_is)) (subst (λ (p : Participant). z ≤ (member_of p s).served) same ahead.ahead.more),
    )
      where
        tid_is : tid ≡ t
        tid_is = same_tid-true tid t its

        server_is : server ≡ s
        server_is = one_server t s low server at

        sized_part : length part.members ≡ 7
        sized_part = (each_found (λ (e : Tid × Participant). length e.1.members ≡ 7) (is_at (tid_cmp tid)) work.node.manager.known part all known).2

        member_now : member_of (voting tid server votes.Recoverable work part) s ≡ cast_now tid server votes.Recoverable work part
        member_now = subst (λ (x : ServerNo). member_of (with_member server (cast_now tid server votes.Recoverable work part) part) x ≡ cast_now tid server votes.Recoverable work part) server_is
            (with_own server (cast_now tid server votes.Recoverable work part) part sized_part (subst (λ (x : ServerNo). is_kept x ≡ true) (sym server_is) (kept_is t s low)))

    prepared_count : Counts t s low work new
    prepared_count = record { made = rec ∷ []; records = refl; keeps = λ c z ahead. log_keeps rec noted c z (first.keeps c z ahead); sized = λ all. log_sized rec noted (first.sized all); votes = λ all. (cast_so all, tt) }

  vote_count : (tid : Tid) (server : ServerNo) (ballot : Vote) (work : Work) → server.0 < 7 → (part : Participant) → part_of tid work ≡ Some part → Counts t s low work (vote_with tid server ballot work)
  vote_count tid server votes.Recoverable work below part known = prepared_count tid server work part known
  vote_count tid server votes.ReadOnly work below part known = entered_count tid server votes.ReadOnly work
  vote_count tid server votes.Volatile work below part known = entered_count tid server votes.Volatile work
  vote_count tid server (votes.Abort reason) work below part known = entered_count tid server (votes.Abort reason) work

  -- ---- one more is known, or one less

  put_count : (tid : Tid) (part : Participant) (work : Work) → part_of tid work ≡ None → length part.members ≡ 7 → Counts t s low work (with_manager (tm.put_part tid part) work)
  put_count tid part work none size = quiet_count t s low work (with_manager (tm.put_part tid part) work) refl keeps
      (λ all. each_put (λ (e : Tid × Participant). length e.1.members ≡ 7) tid_cmp tid_exact tid part work.node.manager.known size all)
    where
      keeps : (c z : ℕ) → IsAheadAt t s low c z work → IsAheadAt t s low c z (with_manager (tm.put_part tid part) work)
      keeps c z ahead = by (same_tid t tid) refl
        where
          by : (b : Bool) → same_tid t tid ≡ b → IsAheadAt t s low c z (with_manager (tm.put_part tid part) work)
          by false far = record { part = ahead.part; known = put_apart t tid part work.node.manager far ∙ ahead.known; ahead = ahead.ahead }
          by true same = absurd (never (sym none ∙ subst (λ (x : Tid). part_of x work ≡ Some ahead.part) (same_tid-true t tid same) ahead.known))
            where
              never : None ≡ Some ahead.part → ⊥
              never e = cc e

  forgotten : (tid : Tid) (work : Work) → (same_tid t tid ≡ true → (c z : ℕ) → IsAheadAt t s low c z work → ⊥) → Counts t s low work (with_manager (tm.forget tid) work)
  forgotten tid work never = quiet_count t s low work (with_manager (tm.forget tid) work) refl keeps (λ all. each_left (λ (e : Tid × Participant). length e.1.members ≡ 7) (is_at (tid_cmp tid)) work.node.manager.known all)
    where
      keeps : (c z : ℕ) → IsAheadAt t s low c z work → IsAheadAt t s low c z (with_manager (tm.forget tid) work)
      keeps c z ahead = by (same_tid t tid) refl
        where
          by : (b : Bool) → same_tid t tid ≡ b → IsAheadAt t s low c z (with_manager (tm.forget tid) work)
          by false far = record { part = ahead.part; known = forget_apart t tid work.node.manager far ∙ ahead.known; ahead = ahead.ahead }
          by true same = absurd (never same c z ahead)

  forget_count : (tid : Tid) (part : Participant) (work : Work) → part_of tid work ≡ Some part → part.involved ≡ false → Counts t s low work (with_manager (tm.forget tid) work)
  forget_count tid part work known off = forgotten tid work (λ same c z ahead. cc (off, ap (λ (p : Participant). p.involved) (some_same (sym known ∙ subst (λ (x : Tid). part_of x work ≡ Some ahead.part) (same_tid-true t tid same) ahead.known)) ∙ ahead.ahead.involved))

  pub counts_go : Goes (Counts t s low)
  counts_go = record {
    self = λ work. still_count t s low work work refl refl;
    both = both_count t s low;
    still = still_count t s low;
    part = part_count t s low;
    served = served_count_on t s low;
    settled = settled_count t s low;
    put = put_count;
    log = log_count;
    vote = vote_count;
    forget = forget_count;
  }

  -- another commit ends
  pub ends_count : (tid : Tid) (work : Work) → same_tid t tid ≡ false → Counts t s low work (Rattle.qs_node_step.specs.Telling.forget tid (log (made.End tid) work))
  ends_count tid work far =
      let logged : Work = log (made.End tid) work in
      let left : Work = with_manager (tm.forget tid) logged in
      both_count t s low work logged (Rattle.qs_node_step.specs.Telling.forget tid logged) (log_count (made.End tid) work refl)
      (both_count t s low logged left (Rattle.qs_node_step.specs.Telling.forget tid logged) (forgotten tid logged (λ same c z ahead. cc (same, far))) (still_count t s low left (Rattle.qs_node_step.specs.Telling.forget tid logged) refl refl))
