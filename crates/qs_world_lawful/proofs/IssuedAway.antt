-- A request to another node changes of a transaction what went to that node, and nothing of what came here or stands here.
use Rattle.qs_world_lawful.proofs.Words.{◌≡◌, ◌≢◌, ◌⊎◌, inl, inr, ℕ, ◌==◌, ◌+◌, ◌≤◌, ◌<◌, Bool, true, false, List, [], ◌∷◌, ◌++◌, Option, Some, None, refl, sym, ap, subst, ◌∙◌, length, map, true≢false, not, ◌&&◌, slice_get, slice_set, unwrap_or, if◌then◌else◌, filter, is_at, member_cmp, same_member, Member, NodeNo, ServerNo, Tid, same_member-true, last_number, no_peer, peer_of, Engage, PeerPart, changed_at_either, lookup_put, lookup_put_apart, changed_at, TransactionValue, is_commit, is_crossed}
use Rattle.qs_world_lawful.proofs.Words.{is_standing, issued, link_cmp, request_cmp, requests_at, sent_in, sent_more, sent_on, Link, Request, RequestNo, Delivery, ServersValue, awaits_note, has_noted, MemberPart, Outstanding, Participant, at_server, HoldsHome, HoldsMember, HoldsTid, AreFor, HoldsWaits, IsWithin, op_in, waiting_ops, some_same, eqb_turned, eqb-false}
use Rattle.qs_engage.specs.Engage as engage
use Rattle.qs_tm.specs.Participant as participant
use Rattle.qs_tm.specs.Participant.{is_by_files}
use Rattle.qs_world_lawful.specs.Face.{Face}
use Rattle.qs_world_lawful.proofs.Faces.{filter_more}
use Rattle.qs_world_lawful.proofs.Issued.{any_more, sent_again}
use Rattle.qs_world_lawful.proofs.Parts.{index_apart, index_set}
use Rattle.qs_world_lawful.proofs.Keys.{KeyApart, link_exact, link_itself, member_found, request_exact, request_itself, same_key_or}
use Rattle.qs_world_lawful.proofs.IssuedStands.{crossed_elsewhere}

-- ---- the node's count of what went to that node

pub counts : (to : NodeNo) (e : Engage) → ((peer_of e to).sent == last_number) ≡ false → to.0 < length e.peers → (peer_of (engage.sent to e) to).sent ≡ (peer_of e to).sent + 1
counts to e room slot = by ((peer_of e to).sent == last_number) room
  where
    by : (b : Bool) → b ≡ false → (peer_of (if b then e else record e { peers = slice_set e.peers to.0 (record (peer_of e to) { sent = (peer_of e to).sent + 1 }) }) to).sent ≡ (peer_of e to).sent + 1
    by true is = absurd (cc is)
    by false is = ap (λ (p : PeerPart). p.sent) (index_set e.peers to.0 (record (peer_of e to) { sent = (peer_of e to).sent + 1 }) no_peer slot)

pub counts_other : (to peer : NodeNo) (e : Engage) → to.0 ≢ peer.0 → (peer_of (engage.sent to e) peer).sent ≡ (peer_of e peer).sent
counts_other to peer e far = by ((peer_of e to).sent == last_number)
  where
    by : (b : Bool) → (peer_of (if b then e else record e { peers = slice_set e.peers to.0 (record (peer_of e to) { sent = (peer_of e to).sent + 1 }) }) peer).sent ≡ (peer_of e peer).sent
    by true = refl
    by false = ap (λ (p : PeerPart). p.sent) (index_apart e.peers to.0 peer.0 (record (peer_of e to) { sent = (peer_of e to).sent + 1 }) no_peer far)

-- ---- the machine

pub changed_elsewhere : {X : Type 0} (f : X → X) (xs : List X) (i j : ℕ) → i ≢ j → slice_get (changed_at i f xs) j ≡ slice_get xs j
changed_elsewhere {X} f xs i j far = by (slice_get xs i) refl
  where
    by : (o : Option X) → slice_get xs i ≡ o → slice_get (changed_at i f xs) j ≡ slice_get xs j
    by None is = ap (λ (o : Option X). slice_get (elim o [ None ↦ xs | Some x ↦ slice_set xs i (f x) ]) j) is
    by (Some v) is = of (changed_at_either f xs i j v is)
      where
        of : ((j ≡ i) × (slice_get xs j ≡ Some v) × (slice_get (changed_at i f xs) j ≡ Some (f v))) ⊎ (slice_get (changed_at i f xs) j ≡ slice_get xs j) → slice_get (changed_at i f xs) j ≡ slice_get xs j
        of (inl here_it) = absurd (far (sym here_it.0))
        of (inr same) = same

module _ (here : NodeNo) (inc number peer_inc place : ℕ) (request : Request) (tx : TransactionValue) (far : request.member.node.0 ≢ here.0) (in_inc : request.inc ≡ inc) where
  abbrev pub away_at : RequestNo
  away_at = record { link = record { from = here; to = request.member.node }; number = number }

  abbrev pub away_tx : TransactionValue
  away_tx = issued away_at request peer_inc place tx

  sent_there : sent_in inc (sent_on away_tx away_at.link) ≡ sent_in inc (sent_on tx away_at.link) + 1
  sent_there = ap (sent_in inc) (lookup_put link_cmp away_at.link (sent_more request (sent_on tx away_at.link)) (link_itself away_at.link) tx.sent) ∙ sent_again inc request (sent_on tx away_at.link) in_inc

  sent_elsewhere : (other : Link) → other.to.0 ≢ request.member.node.0 → sent_on away_tx other ≡ sent_on tx other
  sent_elsewhere other apart = by (same_key_or link_cmp link_exact link_itself away_at.link other)
    where
      by : (away_at.link ≡ other) ⊎ KeyApart link_cmp link_exact link_itself away_at.link other → sent_on away_tx other ≡ sent_on tx other
      by (inl same) = absurd (apart (sym (ap (λ (l : Link). l.to.0) same)))
      by (inr k) = lookup_put_apart link_cmp away_at.link (sent_more request (sent_on tx away_at.link)) (link_exact away_at.link) (is_at (link_cmp other)) k.at tx.sent

  requests_apart : (key : RequestNo) → KeyApart request_cmp request_exact request_itself away_at key → requests_at away_tx key ≡ requests_at tx key
  requests_apart key k = ap (λ (o : Option (List Request)). unwrap_or o []) (lookup_put_apart request_cmp away_at (requests_at tx away_at ++ request ∷ []) (request_exact away_at) (is_at (request_cmp key)) k.at tx.requests)

  -- what came here is as it was
  requests_near : (key : RequestNo) → key.link.to ≡ here → requests_at away_tx key ≡ requests_at tx key
  requests_near key near = by (same_key_or request_cmp request_exact request_itself away_at key)
    where
      by : (away_at ≡ key) ⊎ KeyApart request_cmp request_exact request_itself away_at key → requests_at away_tx key ≡ requests_at tx key
      by (inl same) = absurd (far (ap (λ (k : RequestNo). k.link.to.0) same ∙ ap (λ (n : NodeNo). n.0) near))
      by (inr k) = requests_apart key k

  -- and what stands at servers here
  standing_near : (server : ServerNo) (key : RequestNo) → filter (is_standing (at_server here server)) (requests_at away_tx key) ≡ filter (is_standing (at_server here server)) (requests_at tx key)
  standing_near server key = by (same_key_or request_cmp request_exact request_itself away_at key)
    where
      none_here : is_standing (at_server here server) request ≡ false
      none_here = of (same_member request.member (at_server here server)) refl
        where
          of : (b : Bool) → same_member request.member (at_server here server) ≡ b → (b && not request.served) ≡ false
          of false is = refl
          of true is = absurd (far (ap (λ (m : Member). m.node.0) (same_member-true request.member (at_server here server) is)))

      by : (away_at ≡ key) ⊎ KeyApart request_cmp request_exact request_itself away_at key → filter (is_standing (at_server here server)) (requests_at away_tx key) ≡ filter (is_standing (at_server here server)) (requests_at tx key)
      by (inl same) = subst (λ (k : RequestNo). filter (is_standing (at_server here server)) (requests_at away_tx k) ≡ filter (is_standing (at_server here server)) (requests_at tx k)) same
          (ap (λ (o : Option (List Request)). filter (is_standing (at_server here server)) (unwrap_or o [])) (lookup_put request_cmp away_at (requests_at tx away_at ++ request ∷ []) (request_itself away_at) tx.requests)
          ∙ filter_more (is_standing (at_server here server)) (requests_at tx away_at) request none_here)
      by (inr k) = ap (filter (is_standing (at_server here server))) (requests_apart key k)

  -- nothing is crossed here
  pub crossed_near : (n : ℕ) → is_crossed away_tx (record { node = here; server = record { 0 = n } }) ≡ is_crossed tx (record { node = here; server = record { 0 = n } })
  crossed_near n = crossed_elsewhere _ place request.member (record { node = here; server = record { 0 = n } }) tx.crossed (of (is_at (member_cmp (record { node = here; server = record { 0 = n } })) request.member) refl)
    where
      of : (b : Bool) → is_at (member_cmp (record { node = here; server = record { 0 = n } })) request.member ≡ b → b ≡ false
      of false is = refl
      of true is = absurd (far (sym (ap (λ (m : Member). m.node.0) (member_found (record { node = here; server = record { 0 = n } }) request.member is))))

  away_member : (member : Member) (m : MemberPart) → HoldsMember tx member inc m → HoldsMember away_tx member inc m
  away_member member m h = record { covers = h.covers; voted = h.voted; votes = h.votes; learns = h.learns; ends = h.ends }

  pub away_tid : (tid : Tid) (face : Face) (part : Participant) (outstanding : Outstanding) → ((peer_of part.engage request.member.node).sent == last_number) ≡ false → request.member.node.0 < length part.engage.peers → HoldsTid here inc tid tx (record face { known = Some part })
      → HoldsTid here inc tid away_tx (record face { known = Some (participant.sent request.member.node (participant.issued outstanding part)) })
  away_tid tid face part outstanding room slot h = record {
    sized = h.sized;
    members = λ held server kept. away_member _ _ (h.members refl server kept);
    asked = h.asked;
    outcome = h.outcome;
    silent = h.silent;
    local = ap (sent_in inc) (sent_elsewhere (record { from = here; to = here }) (λ e. far (sym e))) ∙ h.local;
    sent = λ held peer apart. sent_on_now peer apart (peer.0 == request.member.node.0) refl;
    pending = h.pending;
    noted = λ held count some is. noted_on count (h.noted refl count some is);
    queued = λ server at near. rw (requests_near at near) (h.queued server at near);
    made = h.made;
    yielded = h.yielded;
    home = λ near in_it. away_home (h.home near in_it);
  }
    where
      there : request.member.node.0 ≢ here.0 → sent_in inc (sent_on away_tx (record { from = here; to = request.member.node })) ≡ (peer_of (engage.sent request.member.node part.engage) request.member.node).sent
      there apart = sent_there ∙ (ap (λ (n : ℕ). n + 1) (h.sent refl request.member.node apart) ∙ sym (counts request.member.node part.engage room slot))

      sent_on_now : (peer : NodeNo) → peer.0 ≢ here.0 → (b : Bool) → (peer.0 == request.member.node.0) ≡ b → sent_in inc (sent_on away_tx (record { from = here; to = peer })) ≡ (peer_of (engage.sent request.member.node part.engage) peer).sent
      sent_on_now peer apart true is = subst (λ (n : ℕ). sent_in inc (sent_on away_tx (record { from = here; to = record { 0 = n } })) ≡ (peer_of (engage.sent request.member.node part.engage) (record { 0 = n })).sent) (eqb_turned peer.0 request.member.node.0 is) (there far)
      sent_on_now peer apart false is =
          ap (sent_in inc) (sent_elsewhere (record { from = here; to = peer }) (eqb-false peer.0 request.member.node.0 is))
          ∙ (h.sent refl peer apart ∙ sym (counts_other request.member.node peer part.engage (λ e. eqb-false peer.0 request.member.node.0 is (sym e))))

      noted_on : (count : ℕ) → (has_noted count part ≡ true) ⊎ (awaits_note part ≡ true) → (has_noted count part ≡ true) ⊎ (awaits_note (participant.issued outstanding part) ≡ true)
      noted_on count (inl is) = inl is
      noted_on count (inr is) = inr (any_more is_by_files part.waiting outstanding is)

      away_home : HoldsHome tx (Some part) → HoldsHome away_tx (Some (participant.sent request.member.node (participant.issued outstanding part)))
      away_home k = record {
        runs = λ is. refl;
        undecided = λ p alike unknown. k.undecided part refl (ap (λ q. q.outcome) (some_same alike) ∙ unknown);
        asked = λ p alike still. k.asked part refl still ∙ ap (λ q. q.asked) (some_same alike);
      }

  pub away_waits : (tid : Tid) (waiting : ServerNo → List Delivery) (servers : ServersValue) → is_commit tx.cell ≡ false → HoldsWaits here inc tid tx waiting servers → HoldsWaits here inc tid away_tx waiting servers
  away_waits tid waiting servers still k = record {
    whole = λ is. absurd (true≢false (sym is ∙ still));
    due = k.due;
    within = λ server at near. subst (λ (rs : List Request). IsWithin (waiting_ops at (waiting server)) (map op_in (filter (is_standing (at_server here server)) rs))) (sym (requests_near at near)) (k.within server at near);
    once = λ server at whole. subst (λ (rs : List Request). length rs ≤ 1) (sym (standing_near server at)) (k.once server at (sym (crossed_near server.0) ∙ whole));
    fits = λ server at near. subst (λ (rs : List Request). AreFor server (map op_in (filter (is_standing (at_server here server)) rs))) (sym (requests_near at near)) (k.fits server at near);
  }
