-- A message comes, whatever it is, and what stood of a transaction stands.
use Rattle.qs_world_refine.proofs.Words.{◌≡◌, ◌≢◌, ℕ, ◌==◌, Bool, true, false, List, refl, sym, subst, ◌∙◌, eqb-true, same_tid, NodeNo, Tid, Message, Work, message_came, node_no, IsForeign, KeepsPast, Scene, handed, FitsMessage, Stands, GoesOn, IsNext, TakesTold, eqb-self}
use Rattle.qs_packet.specs.declared.message.Message.TheVariants as messages
use Rattle.qs_world_agree.specs.World.{World}
use Rattle.qs_world_refine.specs.CameWhole.{MayCome, MessageStands}
use Rattle.qs_world_refine.proofs.CloserStands.{covered_stands, voted_yes_stands}
use Rattle.qs_world_refine.proofs.InquireStands.{inquire_stands}
use Rattle.qs_world_refine.proofs.MessageStands.{answered_stands, ask_vote_stands, foreign_stands, refusal_stands}
use Rattle.qs_world_refine.proofs.RequestStands.{request_stands}
use Rattle.qs_world_refine.proofs.SoundKnown.{same_is}
use Rattle.qs_world_refine.proofs.TellStands.{tell_stands}
use Rattle.qs_world_refine.proofs.ToldStands.{told_away_stands, told_stands}

module _ (t : Tid) (scene : Scene) (n m i : ℕ) (rest : List Message) (work : Work) (w : World) (is : Stands t scene n work w) where
  abbrev Comes : Message → Type 0
  Comes message = IsNext scene n m i message rest → FitsMessage (node_no m) message work → GoesOn t (handed scene m i n rest) n (message_came (node_no m) message work) w

  -- it is about this one, or about another
  either : (make : Tid → Message) (tid : Tid) → (same_tid t tid ≡ false → IsForeign t (make tid)) → (t ≡ tid → Comes (make t)) → Comes (make tid)
  either make tid foreign own = by (same_tid t tid) refl
    where
      by : (b : Bool) → same_tid t tid ≡ b → Comes (make tid)
      by true same = subst (λ (u : Tid). Comes (make u)) (same_is t tid same) (own (same_is t tid same))
      by false apart = λ next fits. foreign_stands t scene n m i (make tid) rest work w next fits (foreign apart) is

  told_own : (further : List NodeNo) → (n ≡ t.home.0 → TakesTold t scene m further work w) → Comes (messages.Told t further)
  told_own further takes next fits = by (n == t.home.0) refl
    where
      apart : (a b : ℕ) → (a == b) ≡ false → b ≢ a
      apart a b off same = absurd (cc (sym (eqb-self a) ∙ subst (λ (k : ℕ). (a == k) ≡ false) same off))

      at_home : n ≡ t.home.0 → GoesOn t (handed scene m i n rest) n (message_came (node_no m) (messages.Told t further) work) w
      at_home e = subst (λ (k : ℕ). IsNext scene k m i (messages.Told t further) rest → Stands t scene k work w → GoesOn t (handed scene m i k rest) k (message_came (node_no m) (messages.Told t further) work) w) (sym e)
          (λ next is. told_stands t scene m i further rest work w next fits (takes e) is) next is

      by : (b : Bool) → (n == t.home.0) ≡ b → GoesOn t (handed scene m i n rest) n (message_came (node_no m) (messages.Told t further) work) w
      by true same = at_home (eqb-true n t.home.0 same)
      by false off = told_away_stands t scene n m i further rest work w next fits (apart n t.home.0 off) is

  inquire_own : n ≡ t.home.0 → KeepsPast t work → Comes (messages.Inquire t)
  inquire_own e keeps next fits = subst (λ (k : ℕ). IsNext scene k m i (messages.Inquire t) rest → Stands t scene k work w → GoesOn t (handed scene m i k rest) k (message_came (node_no m) (messages.Inquire t) work) w) (sym e)
      (λ next is. inquire_stands t scene m i rest work w next keeps is) next is

  comes : (message : Message) → MayCome t scene n m message work w → Comes message
  comes messages.Hello may = λ next fits. foreign_stands t scene n m i messages.Hello rest work w next fits tt is
  comes (messages.Request tid label member number issuer op) may =
      either (λ u. messages.Request u label member number issuer op) tid (λ apart. apart) (λ same next fits. request_stands t scene n m i number label member issuer op rest work w next (may same) fits is)
  comes (messages.Answered tid member number reply) may = either (λ u. messages.Answered u member number reply) tid (λ apart. apart) (λ same next fits. answered_stands t scene n m i number member reply rest work w next is)
  comes (messages.AskVote tid) may = either (λ u. messages.AskVote u) tid (λ apart. apart) (λ same next fits. ask_vote_stands t scene n m i rest work w next is)
  comes (messages.Covered tid up_to) may = either (λ u. messages.Covered u up_to) tid (λ apart. apart) (λ same next fits. covered_stands t scene n m i up_to rest work w next fits (may same) is)
  comes (messages.VotedYes tid up_to told) may =
      either (λ u. messages.VotedYes u up_to told) tid (λ apart. apart) (λ same next fits. voted_yes_stands t scene n m i up_to told rest work w next fits (may same).0 (may same).1 is)
  comes (messages.VotedAbort tid cause) may = either (λ u. messages.VotedAbort u cause) tid (λ apart. apart) (λ same next fits. refusal_stands t scene n m i cause rest work w next is)
  comes (messages.Tell tid outcome) may = either (λ u. messages.Tell u outcome) tid (λ apart. apart) (λ same next fits. tell_stands t scene n m i outcome rest work w next (may same).0 fits (may same).1 is)
  comes (messages.Told tid further) may = either (λ u. messages.Told u further) tid (λ apart. apart) (λ same. told_own further (may same))
  comes (messages.Inquire tid) may = either (λ u. messages.Inquire u) tid (λ apart. apart) (λ same. inquire_own (may same).0 (may same).1)

pub message_stands : MessageStands
message_stands t scene n m i message rest work w next fits may is = comes t scene n m i rest work w is message may next fits
