-- A home that is ready commits in the agreement machine: then nothing is open anywhere, so the transaction is unanimous, as all places hold what they should.
use Rattle.qs_world_runs.proofs.Words.{◌≡◌, ◌⊎◌, inl, inr, ℕ, ◌+◌, ◌-◌, ◌<◌, ◌==◌, ◌&&◌, not, Bool, true, false, List, [], ◌∷◌, ◌++◌, map, Option, Some, None, is_some, refl, sym, ap, subst, ◌∙◌, arith, if◌then◌else◌, eqb-true, and_parts, nat_tests, ServerNo, Tid, is_passive, listed, BookValue, find_transaction, TransactionValue, agrees, is_unanimous, Life, Part, Record, is_busy, may_answer, Work, doings_of, all_agree, is_ready, needs_pass, Participant, Committed, IsDoomed, has_request}
use Rattle.qs_world_runs.proofs.Words.{ShowsFace, all_said, face_at, place, Scene, sent_to, commit_clear, commit_unmet, HoldsAt, HoldsStill, HoldsTid, face_of, pending, Field, IsLife, IsPresent, asked, message_of, PlacedAmid, book_amid, field_amid, IsBeside, and_three}
use Rattle.qs_base.specs.declared.identifiers.Outcome.TheVariants as outcomes
use Rattle.qs_book_machine.specs.Transaction.{is_open}
use Rattle.qs_packet.specs.declared.message.Message.TheVariants as messages
use Rattle.qs_node_step.specs.Deciding.{decide}
use Rattle.qs_node_step.specs.State.{NodeValue, part_of}
use Rattle.qs_tm.specs.Outcomes as outcome_rules
use Rattle.qs_world_agree.specs.World as machine
use Rattle.qs_world_agree.specs.Carry.{IsLawful}
use Rattle.qs_world_refine.specs.DecisionLaws.{IsHome}
use Rattle.qs_world_refine.specs.Links.{Said, Requested, Closed, Outcome_told, Taken_in, Inquired, node_no}
use Rattle.qs_world_refine.specs.Shows.{sight_during}
use Rattle.qs_world_refine.specs.Stands.{Stands}
use Rattle.qs_world_refine.specs.Steps.{Goes}
use Rattle.qs_world_refine.proofs.DecideCommit.{decide_commit}
use Rattle.qs_world_refine.proofs.Deciding as deciding
use Rattle.qs_world_refine.proofs.Facts.{lawful_on}
use Rattle.qs_world_refine.proofs.SettleStands.{home_clear, is_at_home}
use Rattle.qs_world_lawful.specs.Holds.{HoldsHome}
use Rattle.qs_world_lawful.proofs.Asking.{sent_each_node}
use Rattle.qs_world_runs.specs.PlacedLaws.{IsFree, IsQuiet}
use Rattle.qs_world_runs.specs.PlacesCommits.{HomeCommitsUnanimous, ShowsField, WorldShowsField}
use Rattle.qs_world_runs.proofs.CommitsPlaced.{NoneIn, committed_free, none_decided, none_from, none_in, none_said, ready_free}
use Rattle.qs_world_runs.proofs.FreeLives.{free_agrees}
use Rattle.qs_world_runs.proofs.LeftOutcomes.{decide_leaves}
use Rattle.qs_world_runs.proofs.PlacesLeft.{asked_more}
use Rattle.qs_world_runs.proofs.Quiets.{quiet_unanimous}

-- ---- the field of a world

pub world_shows_field : WorldShowsField
world_shows_field t world = record {
  size = refl;
  up = λ k. refl;
  inc = λ k. refl;
  node = λ k. refl;
  ways = λ p q none server number. none_from t server number (λ i. pending world.channels p q i (world.channels.inc q)) (λ i. none_in t server number (pending world.channels p q i (world.channels.inc q)) (none i)) (world.channels.peer q p) ((world.channels.inc p + 1) - world.channels.peer q p);
  keeps = λ p q none server number. kept p q server number (world.channels.up p) (world.channels.peer p q == 0) refl refl none;
}
  where
    kept : (p q : ℕ) (server : ServerNo) (number : ℕ) (a b : Bool) → world.channels.up p ≡ a → (world.channels.peer p q == 0) ≡ b → (world.channels.up p ≡ true → world.channels.peer p q ≡ 0 → has_request (all_said t (map message_of (world.channels.waits p q))) ≡ false)
        → NoneIn t server number (if a && b then world.channels.waits p q else [])
    kept p q server number true true on unknown none = none_in t server number (world.channels.waits p q) (none on (eqb-true (world.channels.peer p q) 0 unknown))
    kept p q server number true false on known none = refl
    kept p q server number false b off unknown none = refl

-- ---- what says no request says none in each part

parts_say : (xs ys : List Said) → has_request (xs ++ ys) ≡ false → (has_request xs ≡ false) × (has_request ys ≡ false)
parts_say [] ys none = (refl, none)
parts_say (Requested number server ∷ xs) ys none = absurd (cc none)
parts_say (Closed number told ∷ xs) ys none = parts_say xs ys none
parts_say (Outcome_told commit ∷ xs) ys none = parts_say xs ys none
parts_say (Taken_in further ∷ xs) ys none = parts_say xs ys none
parts_say (Inquired ∷ xs) ys none = parts_say xs ys none

-- ---- the home commits

module _ (t : Tid) (scene : Scene) (base : Field) (stamp : ℕ) (before : BookValue) (work : Work) (part : Participant) (v : machine.World) (tx : TransactionValue) (is : Stands t scene t.home.0 work v) (field : ShowsField t scene base)
    (others : (k : ℕ) → k < scene.size → scene.up k ≡ true → (k == t.home.0) ≡ false → IsBeside scene (book_amid t.home.0 stamp before work) k) (holds : HoldsStill (book_amid t.home.0 stamp before work) work.node)
    (known : part_of t work ≡ Some part) (open_now : part.outcome ≡ None) (may : may_answer t part work ≡ true) (found : find_transaction (book_amid t.home.0 stamp before work) t ≡ Some tx) where
  abbrev n : ℕ
  n = t.home.0

  abbrev book : BookValue
  book = book_amid n stamp before work

  abbrev amid : Field
  amid = field_amid base (scene.knows n) n work

  ready : is_ready (is_busy t work.node part) part ≡ true
  ready = (and_parts (is_ready (is_busy t work.node part) part) (not (needs_pass part) && not (doings_of t work).prepared) may).0

  home : IsHome t scene work part
  home = is_at_home t scene work v is part known open_now

  abbrev new : Work
  new = decide t outcomes.Commit None work

  goes : Goes t scene n new v
  goes = decide_commit t scene None work part v is.lawful is.shown home ready (home_clear t scene work v is part known open_now)

  abbrev w : machine.World
  w = goes.next

  lawful : IsLawful w
  lawful = lawful_on v w is.lawful goes.leads

  committed : w.cell ≡ Committed
  committed = lawful.agreed.knows_commit (place n (scene.inc n)) ((shown_face (n == n) itself).outcome ∙ (ap (λ (node : NodeValue). (face_at node t).outcome) node_is ∙ told))
    where
      rec : Option Record
      rec = outcome_rules.record_of t outcomes.Commit part

      itself : (n == n) ≡ true
      itself = grind (arith, nat_tests)

      node_is : new.node ≡ (deciding.noticed t scene outcomes.Commit None work part home rec).node
      node_is = ap (λ (x : Work). x.node) (deciding.decide_is t scene outcomes.Commit None work part home rec refl) ∙ sent_each_node (messages.Tell t outcomes.Commit) (listed (outcome_rules.tell_of outcomes.Commit part)) (deciding.noticed t scene outcomes.Commit None work part home rec)

      told : (face_at (deciding.noticed t scene outcomes.Commit None work part home rec).node t).outcome ≡ Committed
      told = (deciding.face_noticed t scene outcomes.Commit None work part home rec (deciding.record_own t outcomes.Commit part)).outcome

      shown_face : (b : Bool) → b ≡ true → ShowsFace (face_at new.node t) (place n (scene.inc n)) w
      shown_face b so = picked (n == n) itself (goes.shown.faces n home.at.in_run home.at.up)
        where
          picked : (b : Bool) → b ≡ true → ShowsFace (if b then face_at new.node t else face_at (scene.node n) t) (place n (scene.inc n)) w → ShowsFace (face_at new.node t) (place n (scene.inc n)) w
          picked true so f = f
          picked false so f = absurd (cc so)

  -- ---- what the machine has of it

  its : HoldsTid work.node.setting.node work.node.setting.inc t tx (face_of work.node t)
  its = subst (λ (o : Option TransactionValue). HoldsAt work.node.setting.node work.node.setting.inc t o (face_of work.node t)) found (holds.at t)

  at_home : HoldsHome tx (part_of t work)
  at_home = its.home (ap (λ (k : ℕ). node_no k) refl ∙ sym home.at.node) (home.first ∙ sym home.at.inc)

  undecided : is_open tx.cell ≡ true
  undecided = at_home.undecided part known open_now

  asked_for : is_some tx.asked ≡ true
  asked_for = at_home.asked part known undecided ∙ first_of part.asked (not part.blocked) (not (is_busy t work.node part)) (is_passive part.engage) (all_agree part) ready
    where
      first_of : (a b c d e : Bool) → ((a && b) && ((c && d) && e)) ≡ true → a ≡ true
      first_of true b c d e so = refl
      first_of false b c d e so = absurd (cc so)

  -- ---- nodes are free

  apart_from : (k : ℕ) → k < scene.size → scene.up k ≡ true → (k == n) ≡ false → IsFree t (scene.node k)
  apart_from k k_in up apart = let o = others k k_in up apart in
      committed_free t (scene.node k) (place k (scene.inc k)) w lawful committed (picked (k == n) apart (goes.shown.faces k k_in up)) o.sound (λ other its. none_decided book t tx (scene.node k) o.holds found undecided other its)
    where
      picked : (b : Bool) → b ≡ false → ShowsFace (if b then face_at new.node t else face_at (scene.node k) t) (place k (scene.inc k)) w → ShowsFace (face_at (scene.node k) t) (place k (scene.inc k)) w
      picked false so f = f
      picked true so f = absurd (cc so)

  free : (k : ℕ) → k < scene.size → scene.up k ≡ true → IsFree t (amid.node k)
  free k k_in up = by (k == n) refl
    where
      by : (b : Bool) → (k == n) ≡ b → IsFree t (if b then work.node else base.node k)
      by true same = ready_free t work part known may
      by false apart = subst (λ (node : NodeValue). IsFree t node) (sym (field.node k)) (apart_from k k_in up apart)

  -- ---- nothing is on its way, and nothing is kept back

  sent_leaves : (q : ℕ) (server : ServerNo) (number : ℕ) → asked t server number (sent_to q new.out.messages) ≡ asked t server number (sent_to q work.out.messages)
  sent_leaves q server number = (decide_leaves t t outcomes.Commit None work).asks q server number

  no_more : (a b c : ℕ) → a ≡ 0 → b ≡ 0 → c ≡ a + b → c ≡ 0
  no_more a b c p q r = omega (arith, p, q, r)

  ways : (p q : ℕ) → p < scene.size → q < scene.size → scene.up q ≡ true → (server : ServerNo) (number : ℕ) → asked t server number (amid.sent p q) ≡ 0
  ways p q p_in q_in up server number = no_more (asked t server number (base.sent p q)) (asked t server number (if puts then sent_to q work.out.messages else [])) (asked t server number (amid.sent p q))
      (field.ways p q (λ i. (clear i).0) server number) (posted puts refl) (asked_more t server number (base.sent p q) (if puts then sent_to q work.out.messages else []))
    where
      puts : Bool
      puts = (p == n) && ((scene.knows n q == base.inc q) && not (scene.knows n q == 0))

      test : ℕ → Bool
      test i = (p == n) && ((i == scene.inc n) && ((scene.inc q == scene.knows n q) && not (scene.inc q == 0)))

      said : (i : ℕ) (b : Bool) → test i ≡ b → has_request (if b then all_said t (scene.pending p i q (scene.inc q)) ++ all_said t (sent_to q new.out.messages) else all_said t (scene.pending p i q (scene.inc q))) ≡ false
      said i b so = picked (test i) b so (commit_clear t (sight_during t scene n new) w lawful committed goes.shown p i q p_in q_in up)
        where
          picked : (a b : Bool) → a ≡ b → has_request (if a then all_said t (scene.pending p i q (scene.inc q)) ++ all_said t (sent_to q new.out.messages) else all_said t (scene.pending p i q (scene.inc q))) ≡ false
              → has_request (if b then all_said t (scene.pending p i q (scene.inc q)) ++ all_said t (sent_to q new.out.messages) else all_said t (scene.pending p i q (scene.inc q))) ≡ false
          picked true true e x = x
          picked false false e x = x
          picked true false e x = absurd (cc e)
          picked false true e x = absurd (cc e)

      clear : (i : ℕ) → (has_request (all_said t (scene.pending p i q (scene.inc q))) ≡ false) × (test i ≡ true → has_request (all_said t (sent_to q new.out.messages)) ≡ false)
      clear i = by (test i) refl
        where
          by : (b : Bool) → test i ≡ b → (has_request (all_said t (scene.pending p i q (scene.inc q))) ≡ false) × (b ≡ true → has_request (all_said t (sent_to q new.out.messages)) ≡ false)
          by true so = let both = parts_say (all_said t (scene.pending p i q (scene.inc q))) (all_said t (sent_to q new.out.messages)) (said i true so) in (both.0, λ e. both.1)
          by false so = (said i false so, λ e. absurd (cc e))

      posted : (b : Bool) → puts ≡ b → asked t server number (if b then sent_to q work.out.messages else []) ≡ 0
      posted false so = refl
      posted true so = sym (sent_leaves q server number) ∙ none_said t server number (sent_to q new.out.messages) ((clear (scene.inc n)).1 (tests (p == n) (scene.knows n q) (base.inc q) (scene.inc q) (scene.inc n) (field.inc q) so))
        where
          tests : (a : Bool) (k b s j : ℕ) → b ≡ s → (a && ((k == b) && not (k == 0))) ≡ true → (a && ((j == j) && ((s == k) && not (s == 0)))) ≡ true
          tests true k b s j e so = let same : k ≡ b = eqb-true k b (and_parts (k == b) (not (k == 0)) so).0 in let some : not (k == 0) ≡ true = (and_parts (k == b) (not (k == 0)) so).1 in close s k j (same ∙ e) some
            where
              close : (s k j : ℕ) → k ≡ s → not (k == 0) ≡ true → ((j == j) && ((s == k) && not (s == 0))) ≡ true
              close s k j e some = subst (λ (x : ℕ). ((j == j) && ((x == k) && not (x == 0))) ≡ true) e (and_three (j == j) (k == k) (not (k == 0)) (grind (arith, nat_tests)) (grind (arith, nat_tests)) some)
          tests false k b s j e so = absurd (cc so)

  keeps : (p q : ℕ) → p < scene.size → q < scene.size → (server : ServerNo) (number : ℕ) → asked t server number (amid.kept p q) ≡ 0
  keeps p q p_in q_in server number = no_more (asked t server number (base.kept p q)) (asked t server number (if holds_back then sent_to q work.out.messages else [])) (asked t server number (amid.kept p q))
      (field.keeps p q (λ up unknown. (clear up unknown).0) server number) (posted holds_back refl) (asked_more t server number (base.kept p q) (if holds_back then sent_to q work.out.messages else []))
    where
      holds_back : Bool
      holds_back = (p == n) && (scene.knows n q == 0)

      clear : scene.up p ≡ true → scene.knows p q ≡ 0 → (has_request (all_said t (scene.unmet p q)) ≡ false) × (holds_back ≡ true → has_request (all_said t (sent_to q new.out.messages)) ≡ false)
      clear up unknown = by holds_back (commit_unmet t (sight_during t scene n new) w lawful committed goes.shown p q p_in q_in up unknown)
        where
          by : (b : Bool) → has_request (if b then all_said t (scene.unmet p q) ++ all_said t (sent_to q new.out.messages) else all_said t (scene.unmet p q)) ≡ false
              → (has_request (all_said t (scene.unmet p q)) ≡ false) × (b ≡ true → has_request (all_said t (sent_to q new.out.messages)) ≡ false)
          by true none = let both = parts_say (all_said t (scene.unmet p q)) (all_said t (sent_to q new.out.messages)) none in (both.0, λ e. both.1)
          by false none = (none, λ e. absurd (cc e))

      posted : (b : Bool) → holds_back ≡ b → asked t server number (if b then sent_to q work.out.messages else []) ≡ 0
      posted false so = refl
      posted true so = let both = and_parts (p == n) (scene.knows n q == 0) so in let at_n : p ≡ n = eqb-true p n both.0 in
          sym (sent_leaves q server number) ∙ none_said t server number (sent_to q new.out.messages)
          ((clear (ap scene.up at_n ∙ home.at.up) (ap (λ (k : ℕ). scene.knows k q) at_n ∙ eqb-true (scene.knows n q) 0 both.1)).1 so)

  -- ---- present lives agree

  lives : (l : Life) (its : Part) → IsLife tx amid l its → IsPresent amid l → agrees (l, its) ≡ true
  lives l its life present = by (l.member.node.0 == n) refl
    where
      k_in : l.member.node.0 < scene.size
      k_in = subst (λ (s : ℕ). l.member.node.0 < s) field.size present.in_run

      up : scene.up l.member.node.0 ≡ true
      up = sym (field.up l.member.node.0) ∙ present.up

      by : (b : Bool) → (l.member.node.0 == n) ≡ b → agrees (l, its) ≡ true
      by true same = free_agrees book t tx amid work.node l its found undecided holds (ready_free t work part known may) life (ap (λ (k : ℕ). node_no k) (eqb-true l.member.node.0 n same) ∙ sym home.at.node)
          (present.now ∙ (field.inc l.member.node.0 ∙ (ap scene.inc (eqb-true l.member.node.0 n same) ∙ sym home.at.inc)))
      by false apart = let o = others l.member.node.0 k_in up apart in
          free_agrees book t tx amid (scene.node l.member.node.0) l its found undecided o.holds (apart_from l.member.node.0 k_in up apart) life (sym o.at) (present.now ∙ (field.inc l.member.node.0 ∙ sym o.inc))

  quiet : IsQuiet t tx amid
  quiet = record {
    idle = λ k k_in up. (free k (subst (λ (s : ℕ). k < s) field.size k_in) (sym (field.up k) ∙ up)).idle;
    ways = λ p q p_in q_in up. ways p q (subst (λ (s : ℕ). p < s) field.size p_in) (subst (λ (s : ℕ). q < s) field.size q_in) (sym (field.up q) ∙ up);
    keeps = λ p q p_in q_in. keeps p q (subst (λ (s : ℕ). p < s) field.size p_in) (subst (λ (s : ℕ). q < s) field.size q_in);
    lives = lives;
  }

  unanimous : IsDoomed v ⊎ PlacedAmid t base (scene.knows n) n stamp before work → is_unanimous tx ≡ true
  unanimous (inl doomed) = absurd (doomed w goes.leads committed)
  unanimous (inr placed) = quiet_unanimous t tx amid (placed tx found undecided) asked_for quiet

pub home_commits : HomeCommitsUnanimous
home_commits t scene base stamp before work part v tx is field placed others holds known open_now may found = unanimous t scene base stamp before work part v tx is field others holds known open_now may found placed
