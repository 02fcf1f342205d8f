-- A server replies by the rules of its kind: the machine's table gives the same reply, or it is busy with one that is crossed.
use Rattle.qs_world_lawful.proofs.Words.{◌≡◌, ◌⊎◌, inl, inr, ℕ, Bool, true, false, Option, Some, None, refl, sym, ap, ◌∙◌, arith, nat_lt, nat_le, nat_tests, if◌then◌else◌, option_map, Tid, same_bytes-self, same_tid-self, takes_lock, TableValue, share_of, holder, reply_to, Op, Reply, Share, HoldsTable, some_same}
use Rattle.qs_base.proofs.Same.{same_lists-self}
use Rattle.qs_ops.specs.Alike.{same_reply}
use Rattle.qs_ops.specs.Table.{unless_refused, free_reply}
use Rattle.qs_ops.specs.declared.reply.Reply.TheVariants as replies
use Rattle.qs_world_lawful.proofs.Holders.{IsHiding, Back, holds_back, same_free}
use Rattle.qs_world_lawful.proofs.Tables.{own_share}

pub reply_itself : (r : Reply) → same_reply r r ≡ true
reply_itself replies.Done = refl
reply_itself (replies.Value text) = same_bytes-self text
reply_itself (replies.Left ticks) = grind (arith, nat_tests)
reply_itself (replies.Names list) = same_lists-self list
reply_itself (replies.Notes list) = same_lists-self list
reply_itself (replies.Busy holder) = same_tid-self holder
reply_itself replies.Absent = refl
reply_itself replies.TooMany = refl
reply_itself replies.TooLong = refl

abbrev chosen : Bool → Option Tid → Reply → Reply
chosen many o free = if many then replies.TooMany else (elim o [ Some other ↦ replies.Busy other | None ↦ free ])

-- what is so of each reply that may be given
pub refused_has : (P : Reply → Bool) (table : TableValue) (tid : Tid) (op : Op) (free : Reply) → P replies.TooMany ≡ true → ((t : Tid) → holder table tid op ≡ Some t → P (replies.Busy t) ≡ true) → P free ≡ true → P (unless_refused table tid op free) ≡ true
refused_has P table tid op free many busy plain = by (nat_le 1024 (share_of table tid).operations) (holder table tid op) refl
  where
    by : (b : Bool) (o : Option Tid) → holder table tid op ≡ o → P (chosen b o free) ≡ true
    by true o is = many
    by false None is = plain
    by false (Some t) is = busy t is

module _ (seen : Tid → Bool) (kept held : TableValue) (h : HoldsTable seen kept held) (me : Tid) (mine : seen me ≡ true) where
  pub record IsBusyWith (op : Op) (reply : Reply) (t : Tid) : Type 0 where
    pub hides : IsHiding seen kept held h me mine t
    pub locks : takes_lock op ≡ true
    pub few : nat_lt (share_of kept me).operations 1024 ≡ true
    pub busy : reply ≡ replies.Busy t

  -- the server's reply is that of the machine's table; or it is busy with one that is hidden, where the operation takes a lock and is
  -- not one too many
  pub table_reply : (op : Op) (reply : Reply) → reply_to held me op ≡ Some reply → (reply_to kept me op ≡ Some reply) ⊎ ((t : Tid) × IsBusyWith op reply t)
  table_reply op reply is = by (free_reply held me op) refl (holds_back seen kept held h me mine op)
    where
      few : (n : ℕ) → nat_le 1024 n ≡ false → nat_lt n 1024 ≡ true
      few n less = grind (arith, nat_tests, less)

      counts : (share_of kept me).operations ≡ (share_of held me).operations
      counts = ap (λ (s : Share). s.operations) (own_share seen kept held h me mine)

      alike : (free : Reply) → holder kept me op ≡ holder held me op → unless_refused kept me op free ≡ unless_refused held me op free
      alike free same = ap (λ (n : ℕ). chosen (nat_le 1024 n) (holder kept me op) free) counts ∙ ap (λ (o : Option Tid). chosen (nat_le 1024 (share_of held me).operations) o free) same

      kept_reply : (free : Reply) → free_reply held me op ≡ Some free → unless_refused kept me op free ≡ reply → reply_to kept me op ≡ Some reply
      kept_reply free at so = ap (option_map (unless_refused kept me op)) (same_free seen kept held h me mine op ∙ at) ∙ ap Some so

      locked : (free : Reply) → free_reply held me op ≡ Some free → (t : Tid) → holder held me op ≡ Some t → IsHiding seen kept held h me mine t → takes_lock op ≡ true
          → (b : Bool) → nat_le 1024 (share_of held me).operations ≡ b → chosen b (holder held me op) free ≡ reply → (reply_to kept me op ≡ Some reply) ⊎ ((u : Tid) × IsBusyWith op reply u)
      locked free at t holds hides locks true many so =
          inl (kept_reply free at (ap (λ (b : Bool). chosen b (holder kept me op) free) (ap (nat_le 1024) counts ∙ many) ∙ so))
      locked free at t holds hides locks false many so =
          inr (t, record { hides = hides; locks = locks; few = few _ (ap (nat_le 1024) counts ∙ many); busy = sym so ∙ ap (λ (o : Option Tid). chosen false o free) holds })

      said : (free : Reply) → free_reply held me op ≡ Some free → unless_refused held me op free ≡ reply
      said free at = some_same (sym (ap (option_map (unless_refused held me op)) at) ∙ is)

      nothing : free_reply held me op ≡ None → None ≡ Some reply
      nothing at = sym (ap (option_map (unless_refused held me op)) at) ∙ is

      by : (o : Option Reply) → free_reply held me op ≡ o → Back seen kept held h me mine op → (reply_to kept me op ≡ Some reply) ⊎ ((t : Tid) × IsBusyWith op reply t)
      by None at back = absurd (cc (nothing at))
      by (Some free) at (inl same) = inl (kept_reply free at (alike free same ∙ said free at))
      by (Some free) at (inr k) = locked free at k.1.0 k.1.1 k.1.2 k.0 (nat_le 1024 (share_of held me).operations) refl (said free at)
