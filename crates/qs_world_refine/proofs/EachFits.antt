-- A message about a transaction that is shown fits, and what its coming asks of the machine holds.
use Rattle.qs_world_refine.proofs.Words.{◌≡◌, ℕ, ◌+◌, ◌<◌, ◌≤◌, ◌==◌, ◌||◌, nat_lt, Bool, true, false, List, [], ◌∷◌, ◌++◌, Option, Some, None, refl, sym, ap, subst, ◌∙◌, arith, if◌then◌else◌, list_any, list_all, filter, eqb-true, nat_tests, Member, NodeNo, ServerNo, Tid, same_node, is_for, Op, Message, Participant, Work, part_of, Open, Committed, Aborted, Leads, ShowsAll, Face, Said, Inquired, Link, link, IsLink, names_node, node_no, said, all_said, face_at, is_past_commit, unknown}
use Rattle.qs_world_refine.proofs.Words.{unknown_at_home, outcome_of, AgreesWith, place, Scene, FitsMessage, begun, Stands, IsSteady, HasBegun, is_fit_message, IsNext, TakesTold}
use Rattle.qs_base.specs.declared.identifiers.Outcome.{Outcome}
use Rattle.qs_base.specs.declared.identifiers.Outcome.TheVariants as outcomes
use Rattle.qs_packet.specs.declared.message.Message.TheVariants as messages
use Rattle.qs_world.specs.World.{World}
use Rattle.qs_world_agree.specs.World as machine
use Rattle.qs_world_refine.specs.CameWhole.{MayCome}
use Rattle.qs_world_refine.specs.EachMove.{IsAbout}
use Rattle.qs_world_refine.specs.Steady.{is_of_run, is_node_of_run}
use Rattle.qs_world_refine.proofs.EachHears.{is_calm, learnt, past_here, counts_no_more, keeps_past}
use Rattle.qs_world_refine.proofs.Facts.{invariant}
use Rattle.qs_world_refine.proofs.Heads.{shown_here, node_is, sender_is, peer_is, head_link, told_commit, told_abort, no_request, below_sent, names_no_home, taken_names}
use Rattle.qs_world_refine.proofs.LaterWorlds.{commit_stays}
use Rattle.qs_world_refine.proofs.MessageFits.{nothing_open, agrees_commit, agrees_abort, may_take, answers_for}
use Rattle.qs_world_refine.proofs.Same.{tid_same}
use Rattle.qs_world_refine.proofs.SoundParts.{and_both}

-- a node that a list of nodes of the run names is one
named_in : (size k : ℕ) (told : List NodeNo) → list_all (is_node_of_run size) told ≡ true → names_node told (node_no k) ≡ true → nat_lt k size ≡ true
named_in size k [] all is = absurd (cc (is))
named_in size k (m ∷ told) all is = by (k == m.0) refl is (named_in size k told (and_both (nat_lt m.0 size) (list_all (is_node_of_run size) told) all).1)
  where
    both : (nat_lt m.0 size ≡ true) × (list_all (is_node_of_run size) told ≡ true)
    both = and_both (nat_lt m.0 size) (list_all (is_node_of_run size) told) all

    by : (b : Bool) → (k == m.0) ≡ b → (b || names_node told (node_no k)) ≡ true → (names_node told (node_no k) ≡ true → nat_lt k size ≡ true) → nat_lt k size ≡ true
    by true same so more = subst (λ (j : ℕ). nat_lt j size ≡ true) (sym (eqb-true k m.0 same)) both.0
    by false apart so more = more so

-- inquiries that are on their way were put
inquiries_put : (l : Link) (saids : List Said) → l.to_home ≡ true → IsLink l saids → l.inquiry_taken ≤ l.inquiry_put
inquiries_put l [] home is = is.inquiries home
inquiries_put l (Rattle.qs_world_refine.specs.Links.Requested number server ∷ rest) home is = inquiries_put (record l { received = l.received + 1 }) rest home is.2
inquiries_put l (Rattle.qs_world_refine.specs.Links.Closed number told ∷ rest) home is = inquiries_put (record l { taken = l.taken + 1 }) rest home is.2
inquiries_put l (Rattle.qs_world_refine.specs.Links.Outcome_told commit ∷ rest) home is = inquiries_put l rest home is.1
inquiries_put l (Rattle.qs_world_refine.specs.Links.Taken_in further ∷ rest) home is = inquiries_put l rest home is.1
inquiries_put l (Inquired ∷ rest) home is = let more = inquiries_put (record l { inquiry_taken = l.inquiry_taken + 1 }) rest home is in omega (arith, more)

module _ (t : Tid) (world : World) (w : machine.World) (steady : IsSteady world) (home_in : t.home.0 < world.size) (began : HasBegun world t) (all : ShowsAll t world w) (n free : ℕ) (n_in : n < world.size) (on : world.channels.up n ≡ true)
    (v : machine.World) (leads : Leads w v) (scene : Scene) (sized : scene.size ≡ world.size) (same : scene.inc ≡ world.channels.inc) (is : Stands t scene n (begun (world.hosts n).node free) v) (m i : ℕ) (rest : List Message) where
  abbrev work : Work
  work = begun (world.hosts n).node free

  abbrev Next : Message → Type 0
  Next message = IsNext scene n m i message rest

  knows_it : Rattle.qs_world_refine.proofs.Heads.Learnt t work v
  knows_it = learnt t world w steady home_in all n free n_in on v leads scene sized same is

  its_past : Rattle.qs_world_refine.specs.Sound.is_past work.node t ≡ true
  its_past = past_here t world w steady home_in all n free n_in on v leads scene sized same is began

  calm_work : Rattle.qs_world_refine.proofs.Calm.IsCalm work
  calm_work = is_calm t world w steady home_in all n free n_in on

  small : t.home.0 < 16
  small = below t.home.0 scene.size is.home_in is.shown.stage.small
    where
      below : (a b : ℕ) → a < b → b ≤ 16 → a < 16
      below a b less most = omega (arith, less, most)

  -- ---- it fits

  request_fits : (label : List ℕ) (member : Member) (number : ℕ) (issuer : ServerNo) (op : Op) → Next (messages.Request t label member number issuer op) → FitsMessage (node_no m) (messages.Request t label member number issuer op) work
  request_fits label member number issuer op next = (its_past, may_take t scene n work v is knows_it (no_request t scene n work v is m i (messages.Request t label member number issuer op) rest next number member.server.0 refl))

  covered_fits : (up_to : ℕ) → Next (messages.Covered t up_to) → FitsMessage (node_no m) (messages.Covered t up_to) work
  covered_fits up_to next = (small, answers_for t scene n work v is knows_it m up_to (below_sent t scene n work v is m i (messages.Covered t up_to) rest next up_to [] refl))

  voted_fits : (up_to : ℕ) (told : List NodeNo) → Next (messages.VotedYes t up_to told) → list_all (is_node_of_run world.size) told ≡ true → FitsMessage (node_no m) (messages.VotedYes t up_to told) work
  voted_fits up_to told next in_run = (
    small,
    (
      λ k names. subst (λ (size : ℕ). nat_lt k size ≡ true) (sym (is.at.nodes ∙ sized)) (named_in world.size k told in_run names),
      answers_for t scene n work v is knows_it m up_to (below_sent t scene n work v is m i (messages.VotedYes t up_to told) rest next up_to told refl),
    ),
  )

  tell_fits : (outcome : Outcome) → Next (messages.Tell t outcome) → FitsMessage (node_no m) (messages.Tell t outcome) work
  tell_fits outcomes.Commit next so = nothing_open t scene n work v is knows_it calm_work.queues (told_commit t scene n work v is m i (messages.Tell t outcomes.Commit) rest next refl)
  tell_fits outcomes.Abort next so = absurd (cc (so))

  pub own_fits : (message : Message) → Next message → is_fit_message world.size m n message ≡ true → IsAbout t message → FitsMessage (node_no m) message work
  own_fits messages.Hello next fit about = tt
  own_fits (messages.Request tid label member number issuer op) next fit about = subst (λ (u : Tid). Next (messages.Request u label member number issuer op) → FitsMessage (node_no m) (messages.Request u label member number issuer op) work) about (request_fits label member number issuer op) next
  own_fits (messages.Answered tid member number reply) next fit about = tt
  own_fits (messages.AskVote tid) next fit about = tt
  own_fits (messages.Covered tid up_to) next fit about = subst (λ (u : Tid). Next (messages.Covered u up_to) → FitsMessage (node_no m) (messages.Covered u up_to) work) about (covered_fits up_to) next
  own_fits (messages.VotedYes tid up_to told) next fit about = subst (λ (u : Tid). Next (messages.VotedYes u up_to told) → FitsMessage (node_no m) (messages.VotedYes u up_to told) work) about (λ at. voted_fits up_to told at (and_both (is_of_run world.size tid) (list_all (is_node_of_run world.size) told) fit).1) next
  own_fits (messages.VotedAbort tid cause) next fit about = tt
  own_fits (messages.Tell tid outcome) next fit about = subst (λ (u : Tid). Next (messages.Tell u outcome) → FitsMessage (node_no m) (messages.Tell u outcome) work) about (tell_fits outcome) next
  own_fits (messages.Told tid further) next fit about = calm_work.commits
  own_fits (messages.Inquire tid) next fit about = tt

  -- ---- and may come

  tell_agrees : (outcome : Outcome) → Next (messages.Tell t outcome) → AgreesWith t outcome work
  tell_agrees outcomes.Commit next = agrees_commit t scene n work v is knows_it (told_commit t scene n work v is m i (messages.Tell t outcomes.Commit) rest next refl)
  tell_agrees outcomes.Abort next = agrees_abort t scene n work v is knows_it (told_abort t scene n work v is m i (messages.Tell t outcomes.Abort) rest next refl)

  -- an inquiry that comes once commit is decided finds a place that knows it
  asked_knows : Next (messages.Inquire t) → n ≡ t.home.0 → v.cell ≡ Committed → part_of t work ≡ None → is_past_commit work.node t ≡ true
  asked_knows next at committed none = past (is_past_commit work.node t) (sym (seen_unknown ∙ refl) ∙ (sym here.outcome ∙ known))
    where
      q : ℕ
      q = place n (scene.inc n)

      p : ℕ
      p = place m i

      here : Rattle.qs_world_refine.specs.Faces.ShowsFace (face_at work.node t) q v
      here = shown_here t scene n work v is

      home_node : v.node q ≡ v.node v.home
      home_node = node_is t scene n work v is ∙ (at ∙ sym (ap v.node is.shown.stage.home ∙ is.shown.stage.nodes t.home.0 t.inc is.home_in))

      to_home : (v.node q == v.node v.home) ≡ true
      to_home = grind (arith, nat_tests, home_node)

      asked : IsLink (record (link v p q) { inquiry_taken = v.inquiry_taken q p + 1 }) (all_said t rest)
      asked = subst (λ (s : List Said). IsLink (link v p q) s) one (head_link t scene n work v is m i (messages.Inquire t) rest next)
        where
          one : said t (messages.Inquire t) ++ all_said t rest ≡ Inquired ∷ all_said t rest
          one = rw (tid_same t) refl

      put : v.inquiry_taken q p + 1 ≤ v.inquiry_put p q
      put = inquiries_put (record (link v p q) { inquiry_taken = v.inquiry_taken q p + 1 }) (all_said t rest) to_home asked

      known : v.outcome q ≡ Committed
      known = (((invariant v is.lawful).whole (λ aborted. let both : Committed ≡ Aborted = sym committed ∙ aborted in cc (both))).asks q p).known committed here.up home_node (omega (arith, put))

      here_node : same_node t.home work.node.setting.node ≡ true
      here_node = ap (λ (k : NodeNo). same_node t.home k) is.at.node ∙ grind (arith, nat_tests, at)

      outcome_if : Bool → machine.Outcome
      outcome_if b = outcome_of (record (Rattle.qs_tm.specs.Participant.new_participant true) { outcome = if b then Some outcomes.Commit else None })

      seen_unknown : (face_at work.node t).outcome ≡ outcome_if (is_past_commit work.node t)
      seen_unknown = ap (λ (o : Option Participant). outcome_of (Rattle.std.specs.Prelude.unwrap_or o (unknown work.node t))) none
          ∙ ap (λ (b : Bool). outcome_of (if b then unknown_at_home work.node t else Rattle.qs_tm.specs.Participant.new_participant false)) here_node

      past : (b : Bool) → outcome_if b ≡ Committed → b ≡ true
      past true so = refl
      past false so = absurd (cc (so))

  module _ (takes : (further : List NodeNo) → Next (messages.Told t further) → n ≡ t.home.0 → TakesTold t scene m further work v) where
    pub own_comes : (message : Message) → Next message → is_fit_message world.size m n message ≡ true → MayCome t scene n m message work v
    own_comes messages.Hello next fit = tt
    own_comes (messages.Request tid label member number issuer op) next fit = λ about. (and_both (is_of_run world.size tid) (is_for member.server op) fit).1
    own_comes (messages.Answered tid member number reply) next fit = tt
    own_comes (messages.AskVote tid) next fit = tt
    own_comes (messages.Covered tid up_to) next fit = λ about. counts_no_more t world w steady home_in all n free n_in on v leads scene sized same is began
    own_comes (messages.VotedYes tid up_to told) next fit = λ about.
        (names_no_home t scene n work v is m i (messages.VotedYes t up_to told) rest (subst (λ (u : Tid). Next (messages.VotedYes u up_to told)) (sym about) next) up_to told refl, counts_no_more t world w steady home_in all n free n_in on v leads scene sized same is began)
    own_comes (messages.VotedAbort tid cause) next fit = tt
    own_comes (messages.Tell tid outcome) next fit = λ about. (sym (eqb-true t.home.0 m (subst (λ (u : Tid). (u.home.0 == m) ≡ true) (sym about) (and_both (is_of_run world.size tid) (tid.home.0 == m) fit).1)), tell_agrees outcome (subst (λ (u : Tid). Next (messages.Tell u outcome)) (sym about) next))
    own_comes (messages.Told tid further) next fit = λ about at. takes further (subst (λ (u : Tid). Next (messages.Told u further)) (sym about) next) at
    own_comes (messages.Inquire tid) next fit = λ about.
        let at : n ≡ t.home.0 = sym (eqb-true t.home.0 n (subst (λ (u : Tid). (u.home.0 == n) ≡ true) (sym about) (and_both (is_of_run world.size tid) (tid.home.0 == n) fit).1)) in
        (at, keeps_past t world w steady home_in all n free n_in on v leads scene sized same is began all.kept at (λ committed none. asked_knows (subst (λ (u : Tid). Next (messages.Inquire u)) (sym about) next) at (commit_stays w v all.seen.lawful leads committed) none))
