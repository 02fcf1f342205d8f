-- What a vote of the log that is taken up makes of a participant.
use Rattle.qs_world_refine.proofs.Words.{◌≡◌, ℕ, ◌<◌, ◌==◌, ◌&&◌, ◌||◌, not, Bool, true, false, List, [], ◌∷◌, Option, Some, None, is_some, is_none, refl, sym, ap, subst, ◌∙◌, arith, if◌then◌else◌, list_any, eqb-true, or_from, nat_tests, ServerNo, Tid, is_recoverable, class_here, is_abort, member_of, with_member, needs_pass, is_due_at, MemberPart, Participant, is_lent, NodeValue, server_no, where_so, is_whole, or_first, or_last, or-true}
use Rattle.qs_ipc.specs.Ipc as ipc
use Rattle.qs_tm.specs.Members.{all_servers, is_immediate, votes_here, is_vote_due, is_ending_due}
use Rattle.qs_tm.specs.Participant.{has_due}
use Rattle.qs_tm.specs.declared.members.Ballot.TheVariants as ballots
use Rattle.qs_tm.specs.declared.participant.Due.TheVariants as dues
use Rattle.qs_world_refine.proofs.Arrays.{member_put}
use Rattle.qs_world_refine.proofs.SoundMembers.{members_length, member_sound, involve_sound}
use Rattle.qs_world_refine.proofs.SoundViews.{PartSound, is_apart}
use Rattle.qs_base_lemmas.proofs.Tests.{and_not}

any_less : {X : Type 0} (p q : X → Bool) → ((x : X) → q x ≡ true → p x ≡ true) → (xs : List X) → list_any p xs ≡ false → list_any q xs ≡ false
any_less p q less [] none = refl
any_less p q less (x ∷ xs) none = by (p x) (q x) (less x) (list_any p xs) (list_any q xs) (any_less p q less xs) none
  where
    by : (a b : Bool) → (b ≡ true → a ≡ true) → (c d : Bool) → (c ≡ false → d ≡ false) → (a || c) ≡ false → (b || d) ≡ false
    by true b turns c d more is = absurd (cc (is))
    by false true turns c d more is = let wrong : false ≡ true = turns refl in absurd (cc (wrong))
    by false false turns c d more is = more is

-- a recoverable server has a place, and is told no ending
recoverable_low : (server : ServerNo) → is_recoverable server.0 ≡ true → server.0 < 7
recoverable_low server is = grind (arith, nat_tests, is)

recoverable_class : (server : ServerNo) → is_recoverable server.0 ≡ true → is_immediate (class_here server) ≡ false
recoverable_class server is = by (server.0 == 0) refl (server.0 == 1) refl
  where
    at_six : (a b c : Bool) → a ≡ false → b ≡ false → (a || (b || c)) ≡ true → c ≡ true
    at_six true b c x y so = absurd (cc (x))
    at_six false true c x y so = absurd (cc (y))
    at_six false false c x y so = so

    by : (a : Bool) → (server.0 == 0) ≡ a → (b : Bool) → (server.0 == 1) ≡ b → is_immediate (class_here server) ≡ false
    by true x b y = rw (eqb-true server.0 0 x) refl
    by false x true y = rw (eqb-true server.0 1 y) refl
    by false x false y = rw (eqb-true server.0 6 (at_six (server.0 == 0) (server.0 == 1) (server.0 == 6) x y is)) refl

module _ (server : ServerNo) (covers : ℕ) (recoverable : is_recoverable server.0 ≡ true) (part : Participant) (whole : is_whole part ≡ true) where
  abbrev pub voted : MemberPart
  voted = record { served = covers; fresh = true; vote = Some (record { ballot = ballots.Recoverable; covers = covers }) }

  within : server.0 < Rattle.std.proofs.Common.length part.members
  within = rw (members_length part whole) (recoverable_low server recoverable)

  at_other : (r : ServerNo) → (r.0 == server.0) ≡ false → member_of (with_member server voted part) r ≡ member_of part r
  at_other r apart = member_put server.0 r.0 voted part within ∙ rw apart refl

  at_itself : member_of (with_member server voted part) server ≡ voted
  at_itself = member_put server.0 server.0 voted part within ∙ picked (server.0 == server.0) (grind (arith, nat_tests))
    where
      picked : (b : Bool) → b ≡ true → (if b then voted else member_of part server) ≡ voted
      picked b is = rw is refl

  no_vote : is_vote_due server voted ≡ false
  no_vote = and_not (votes_here server) (covers == covers) (grind (arith, nat_tests))

  no_ending : is_ending_due server voted ≡ false
  no_ending = rw (recoverable_class server recoverable) refl

  -- nothing is due that was not
  less_due : (due : ServerNo → MemberPart → Bool) → due server voted ≡ false → (r : ServerNo) → due r (member_of (with_member server voted part) r) ≡ true → due r (member_of part r) ≡ true
  less_due due none r is = by (r.0 == server.0) refl
    where
      by : (b : Bool) → (r.0 == server.0) ≡ b → due r (member_of part r) ≡ true
      by false apart = subst (λ (m : MemberPart). due r m ≡ true) (at_other r apart) is
      by true same =
          let moved : due server (member_of (with_member server voted part) server) ≡ true = subst (λ (k : ℕ). due (server_no k) (member_of (with_member server voted part) (server_no k)) ≡ true) (eqb-true r.0 server.0 same) is in
          let there : due server voted ≡ true = subst (λ (m : MemberPart). due server m ≡ true) at_itself moved in
          absurd (cc (there, none))

  pub still_no_pass : needs_pass part ≡ false → needs_pass (with_member server voted part) ≡ false
  still_no_pass none = or_from (has_due dues.Vote (with_member server voted part)) (has_due dues.Ending (with_member server voted part))
      (any_less (is_due_at dues.Vote part) (is_due_at dues.Vote (with_member server voted part)) (less_due is_vote_due no_vote) all_servers (or_first (has_due dues.Vote part) (has_due dues.Ending part) none))
      (any_less (is_due_at dues.Ending part) (is_due_at dues.Ending (with_member server voted part)) (less_due is_ending_due no_ending) all_servers (or_last (has_due dues.Vote part) (has_due dues.Ending part) none))

-- over a node at which nothing waits and no loan stands: a participant that is aborted at its home
module _ (node : NodeValue) (tid : Tid) (part : Participant) (server : ServerNo) (covers : ℕ) (recoverable : is_recoverable server.0 ≡ true)
    (waits : ipc.waits tid node.queues ≡ false) (lent : is_lent tid node ≡ false) (passes : needs_pass part ≡ false) (unlisted : part.log.listed ≡ false) (aborted : where_so part.engage.home (is_abort part.outcome) ≡ true) (s : PartSound node tid part) where
  abbrev member_part : Participant
  member_part = with_member server (voted server covers recoverable part s.whole) part

  abbrev pub voted_part : Participant
  voted_part = record member_part { involved = true; log = record part.log { unended = true; prepared = true } }

  pub voted_passes : needs_pass voted_part ≡ false
  voted_passes = still_no_pass server covers recoverable part s.whole passes

  idle : (c a b n : Bool) → a ≡ false → b ≡ false → n ≡ false → where_so c (not a && (not b && not n)) ≡ true
  idle true a b n x y z = rw (x, y, z) refl
  idle false a b n x y z = refl

  drawn : PartSound node tid (record member_part { involved = true })
  drawn = subst (λ (b : Bool). PartSound node tid (record member_part { involved = b })) (or-true part.involved)
      (involve_sound node tid member_part (member_sound node tid part s server (voted server covers recoverable part s.whole) (grind (arith, nat_tests))
      (idle (is_apart part) (ipc.waits tid node.queues) (is_lent tid node) (needs_pass member_part) waits lent voted_passes)) true)

  pub voted_sound : PartSound node tid voted_part
  voted_sound = record {
    whole = drawn.whole;
    homed = drawn.homed;
    peers = drawn.peers;
    members = drawn.members;
    superior = drawn.superior;
    outside = drawn.outside;
    idle = drawn.idle;
    began = drawn.began;
    logged = log part.log.listed unlisted part.engage.home (is_none part.outcome) (is_abort part.outcome) aborted _;
    silent = drawn.silent;
  }
    where
      log : (l : Bool) → l ≡ false → (h n a : Bool) → where_so h a ≡ true → (x : Bool) → (where_so (true || l) true && (where_so true true && (where_so l x && where_so (true && h) (n || a)))) ≡ true
      log true is h n a so x = absurd (cc (is))
      log false is true true a so x = refl
      log false is true false a so x = so
      log false is false n a so x = refl
