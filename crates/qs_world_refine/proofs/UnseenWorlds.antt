-- In a steady world nothing is seen of a transaction whose number its home has not given, and where its home runs the machine at its start shows it.
use Rattle.qs_world_refine.proofs.Words.{◌≡◌, ℕ, ◌<◌, ◌||◌, Bool, true, false, List, [], ◌∷◌, ◌++◌, drop, length, map, Option, Some, None, refl, sym, ap, subst, ◌∙◌, if◌then◌else◌, zero, suc, list_all, list_any, filter, find, same_tid, NodeNo, Tid, is_outcome_of, Decided, Message, Record, recovery, names_transaction, was_committed, is_kept_commit, kept_outcome, NodeValue, Participant, Parcel, Committed, may_be_known, inc_in, count_in, fits, ShowsAll, Said, node_no, said, all_said, is_record_of}
use Rattle.qs_world_refine.proofs.Words.{face_at, began_here, is_past_commit, place, message_of, scene_of, sight, Sight, IsNewFace, begins_at, IsUnseen, MayBegin, opening_seen, stage_of, IsSteadyWorld, is_steady_parcel, are_two, KnowsNothing, is_tidy_record, or_from, or_left}
use Rattle.qs_packet.specs.declared.message.Message.TheVariants as messages
use Rattle.qs_record.specs.declared.record.Record.TheVariants as records
use Rattle.qs_tm.specs.Manager as tm
use Rattle.qs_world.specs.World.{World}
use Rattle.qs_world_agree.specs.World as machine
use Rattle.qs_world_refine.specs.Begun.{has_begun}
use Rattle.qs_world_refine.proofs.Doubts.{none_of}
use Rattle.qs_world_refine.proofs.NodeReady.{none_waits}
use Rattle.qs_world_refine.proofs.SoundParts.{and_both}
use Rattle.qs_world_refine.proofs.StartWorlds.{unknown_is_new}
use Rattle.qs_world_refine.proofs.Starting.{unseen_shown, begins_lawful, start_placed}
use Rattle.qs_world_refine.proofs.SteadyGives.{unbegun_unknown, none_any, other}
use Rattle.qs_world_refine.proofs.SteadyGrows.{begun_past}
use Rattle.qs_world_refine.proofs.StepMoves.{all_other}

-- ---- what fits says nothing of it

module _ (tid : Tid) (past begun : Tid → Bool) (off : past tid ≡ false) (inside : (t : Tid) → begun t ≡ true → past t ≡ true) where
  nothing : (t : Tid) (what : Said) → past t ≡ true → (if same_tid tid t then what ∷ [] else []) ≡ []
  nothing t what is = rw (other tid past off t is) refl

  pub fit_says : (size : ℕ) (from to : NodeNo) (message : Message) → fits past begun size from to message ≡ true → said tid message ≡ []
  fit_says size from to messages.Hello fit = refl
  fit_says size from to (messages.Request t label member number issuer op) fit = nothing t _ (inside t (and_both (begun t) _ fit).0)
  fit_says size from to (messages.Answered t member number reply) fit = refl
  fit_says size from to (messages.AskVote t) fit = refl
  fit_says size from to (messages.Covered t up_to) fit = nothing t _ (inside t fit)
  fit_says size from to (messages.VotedYes t up_to told) fit = nothing t _ (inside t (and_both (begun t) _ fit).0)
  fit_says size from to (messages.VotedAbort t cause) fit = refl
  fit_says size from to (messages.Tell t outcome) fit = nothing t _ (and_both (past t) _ fit).0
  fit_says size from to (messages.Told t further) fit = nothing t _ (and_both (past t) _ fit).0
  fit_says size from to (messages.Inquire t) fit = nothing t _ (and_both (past t) _ fit).0

  -- and no record that fits is of it
  pub fit_apart : (me : NodeNo) (rec : Record) → Rattle.qs_world_refine.specs.Begun.fits_record past me rec ≡ true → is_record_of tid rec ≡ false
  fit_apart me (records.Prepare t server covers changes) fit = other tid past off t (and_both (past t) _ fit).0
  fit_apart me (records.Commit t told) fit = other tid past off t (and_both (past t) _ fit).0
  fit_apart me (records.Aborted t) fit = other tid past off t fit
  fit_apart me (records.End t) fit = other tid past off t fit

-- ---- a world

module _ (tid : Tid) (world : World) (steady : IsSteadyWorld world) (numbered : names_transaction tid ≡ true) (home_in : tid.home.0 < world.size) (off : may_be_known world tid ≡ false) where
  abbrev x : Sight
  x = sight tid (scene_of world)

  abbrev node : ℕ → NodeValue
  node n = (world.hosts n).node

  pub nothing_known : (n : ℕ) → n < world.size → KnowsNothing tid world n
  nothing_known n n_in = unbegun_unknown tid world n steady n_in numbered off

  -- ---- nodes

  pub not_committed : (n : ℕ) → n < world.size → was_committed tid (node n) ≡ false
  not_committed n n_in = or_from (is_kept_commit (kept_outcome tid (node n))) (list_any (same_tid tid) (node n).committed)
      (ap (λ (o : Option Decided). is_kept_commit o) (nothing_known n n_in).outcome)
      (none_any (same_tid tid) (may_be_known world) (λ t its. other tid (may_be_known world) off t its) (node n).committed (steady.nodes n n_in).tidy.committed)

  past : (n : ℕ) → n < world.size → is_past_commit (node n) tid ≡ false
  past n n_in = by (began_here (node n) tid) (is_kept_commit (kept_outcome tid (node n))) (list_any (same_tid tid) (node n).committed) (not_committed n n_in)
    where
      by : (b k c : Bool) → (k || c) ≡ false → (if b then (k || c) else c) ≡ false
      by true k c none = none
      by false true c none = absurd (cc (none))
      by false false c none = none

  none_lent : {A : Type 0} (p : A → Bool) (xs : List A) → list_any p xs ≡ false → length (filter p xs) ≡ 0
  none_lent p [] none = refl
  none_lent p (a ∷ xs) none = by (p a) (list_any p xs) none (none_lent p xs)
    where
      by : (b c : Bool) → (b || c) ≡ false → (c ≡ false → length (filter p xs) ≡ 0) → length (if b then a ∷ filter p xs else filter p xs) ≡ 0
      by true c none more = absurd (cc (none))
      by false c none more = more none

  here_is : (n : ℕ) → n < world.size → began_here (node n) tid ≡ begins_at tid x n
  here_is n n_in = rw (steady.seated.node n n_in, steady.seated.inc n n_in) refl

  pub new_face : (n : ℕ) → n < world.size → IsNewFace (begins_at tid x n) (x.face n)
  new_face n n_in = subst (λ (b : Bool). IsNewFace b (face_at (node n) tid)) (here_is n n_in)
      (unknown_is_new (node n) tid (nothing_known n n_in).part (past n n_in) (λ s. none_waits tid (node n).queues (Rattle.qs_world_refine.specs.Sights.server_no s) (nothing_known n n_in).waits)
      (none_lent _ (node n).kept.now.loans (nothing_known n n_in).lent))

  -- ---- links

  inside : (t : Tid) → has_begun world t ≡ true → may_be_known world t ≡ true
  inside t is = (begun_past world.size (inc_in world) (count_in world) t is).0

  parcel_says : (n m : ℕ) (parcel : Parcel) → is_steady_parcel world n m parcel ≡ true → said tid parcel.message ≡ []
  parcel_says n m parcel is = fit_says tid (may_be_known world) (has_begun world) off inside world.size (node_no n) (node_no m) parcel.message (and_both (are_two world.size n m) _ is).1

  parcels_say : (n m : ℕ) (parcels : List Parcel) → list_all (is_steady_parcel world n m) parcels ≡ true → all_said tid (map message_of parcels) ≡ []
  parcels_say n m [] all = refl
  parcels_say n m (parcel ∷ parcels) all = let both : (is_steady_parcel world n m parcel ≡ true) × (list_all (is_steady_parcel world n m) parcels ≡ true) = and_both (is_steady_parcel world n m parcel) _ all in
      both_none (said tid parcel.message) (all_said tid (map message_of parcels)) (parcel_says n m parcel both.0) (parcels_say n m parcels both.1)
    where
      both_none : (a b : List Said) → a ≡ [] → b ≡ [] → (a ++ b) ≡ []
      both_none a b p q = rw (p, q) refl

  all_dropped : (k : ℕ) (n m : ℕ) (parcels : List Parcel) → list_all (is_steady_parcel world n m) parcels ≡ true → list_all (is_steady_parcel world n m) (drop k parcels) ≡ true
  all_dropped zero n m parcels all = all
  all_dropped (suc k) n m [] all = refl
  all_dropped (suc k) n m (parcel ∷ parcels) all = all_dropped k n m parcels (and_both (is_steady_parcel world n m parcel) _ all).1

  -- ---- all of it

  pub world_unseen : IsUnseen tid x
  world_unseen = record {
    small = steady.seated.small;
    numbered = numbered;
    home_in = home_in;
    faces = λ n n_in up. new_face n n_in;
    links = λ n i m j. parcels_say n m (drop (length (world.channels.handed n m i j)) (world.channels.posted n m i j)) (all_dropped (length (world.channels.handed n m i j)) n m (world.channels.posted n m i j) (steady.posted n m i j));
    unmet = λ n m. parcels_say n m (world.channels.waits n m) (steady.waits n m);
    logs = λ n n_in. record {
      prepared = λ s. none_of tid s (recovery (world.hosts n).log).prepared (nothing_known n n_in).doubt;
      committed = (nothing_known n n_in).committed;
      untold = (nothing_known n n_in).untold;
    };
  }

  -- ---- records that wait are of others

  pub none_waiting : (n : ℕ) → n < world.size → list_any (is_record_of tid) (world.hosts n).waiting ≡ false
  none_waiting n n_in = none_any (is_record_of tid) (is_tidy_record (stage_of world n)) (fit_apart tid (may_be_known world) (has_begun world) off inside (node n).setting.node) (world.hosts n).waiting (steady.nodes n n_in).waiting

-- ---- where its home runs

module _ (tid : Tid) (world : World) (steady : IsSteadyWorld world) (numbered : names_transaction tid ≡ true) (home_in : tid.home.0 < world.size) (off : may_be_known world tid ≡ false) (up : world.channels.up tid.home.0 ≡ true)
    (now : tid.inc ≡ world.channels.inc tid.home.0) where
  abbrev pub started : machine.World
  started = machine.start (opening_seen tid (sight tid (scene_of world)))

  pub may_begin : MayBegin tid (sight tid (scene_of world))
  may_begin = record { small = steady.seated.small; home_up = up; home_in = home_in; home_now = now; known = steady.seated.known }

  unknown_part : {A : Type 0} (n : ℕ) → n < world.size → (part : Participant) → tm.part_of tid (world.hosts n).node.manager ≡ Some part → A
  unknown_part n n_in part known = let none : tm.part_of tid (world.hosts n).node.manager ≡ None = (unbegun_unknown tid world n steady n_in numbered off).part in absurd (let both : None ≡ Some part = sym none ∙ known in cc (both))

  never_kept : {A : Type 0} → was_committed tid (world.hosts tid.home.0).node ≡ true → A
  never_kept is = absurd (let none : was_committed tid (world.hosts tid.home.0).node ≡ false = not_committed tid world steady numbered home_in off tid.home.0 home_in in cc (none, is))

  pub start_shows_all : ShowsAll tid world started
  start_shows_all = record {
    seen = record {
      lawful = begins_lawful tid (sight tid (scene_of world)) may_begin;
      placed = start_placed tid (sight tid (scene_of world)) may_begin (λ k k_in. steady.seated.begun k k_in);
      shown = unseen_shown tid (sight tid (scene_of world)) (world_unseen tid world steady numbered home_in off);
      closes = λ n n_in on. all_other tid n (place n (world.channels.inc n)) started (world.hosts n).waiting (none_waiting tid world steady numbered home_in off n n_in);
    };
    outcome = record {
      learnt = λ n part n_in on known decided. unknown_part n n_in part known;
      acknowledged = λ part on known m has. unknown_part tid.home.0 home_in part known;
    };
    kept = record {
      now = λ is. never_kept is;
      saved = λ is. never_kept (or_left (is_kept_commit (kept_outcome tid (world.hosts tid.home.0).node)) (list_any (same_tid tid) (world.hosts tid.home.0).node.committed) (saved_now is));
    };
  }
    where
      saved_now : is_kept_commit (find (is_outcome_of tid) (world.hosts tid.home.0).node.kept.saved.outcomes) ≡ true → is_kept_commit (kept_outcome tid (world.hosts tid.home.0).node) ≡ true
      saved_now is = subst (λ (k : Rattle.qs_node_kept.specs.declared.kept.Kept.Kept). is_kept_commit (find (is_outcome_of tid) k.outcomes) ≡ true) (steady.nodes tid.home.0 home_in).saved is
