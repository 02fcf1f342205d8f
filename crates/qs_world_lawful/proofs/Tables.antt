-- The table of a server and the machine's after a change: what is hidden of the machine's goes on being hidden.
use Rattle.qs_world_lawful.proofs.Words.{◌≡◌, Bool, true, false, List, Option, sym, ap, subst, ◌∙◌, not, ◌&&◌, unwrap_or, fold, lookup, remove_entry, insert_entry, is_at, tid_cmp, Tid, tid_exact, tid_total, at_exact, put_rises, remove_rises, TableValue, share_of, nothing_held, with_share, released, applied, apply_change, apply_note, committed, served, after_serve, TimersValue, timer_served, timers_ended, File, Op, Reply, Share, HoldsTable, HoldsTimers, of_seen}
use Rattle.qs_ops.specs.Table.{with_vote}
use Rattle.qs_ops.specs.Timers.{TimerShareValue, timer_share_of, no_timer_share, after_timer}
use Rattle.qs_world_lawful.proofs.Unseen.{filter_alike, filter_put, filter_hide, filter_removed, filter_crossed, lookup_seen}

-- ---- a table

module _ (seen : Tid → Bool) (kept held : TableValue) (h : HoldsTable seen kept held) where
  pub apply_table : (changes : List Op) → HoldsTable seen (applied kept changes) (applied held changes)
  apply_table changes = record {
    contents = ap (λ (files : List File). fold apply_change files changes) h.contents;
    notes = ap (λ notes. fold apply_note notes changes) h.notes;
    shares = h.shares;
    rising = h.rising;
  }

  pub table_alike : (now : Tid → Bool) → ((t : Tid) → now t ≡ seen t) → HoldsTable now kept held
  table_alike now same = record {
    contents = h.contents;
    notes = h.notes;
    shares = h.shares ∙ sym (filter_alike (of_seen {S = Share} seen) (of_seen now) (λ e. same e.0) held.shares);
    rising = h.rising;
  }

  module _ (tid : Tid) where
    pub own_share : seen tid ≡ true → share_of kept tid ≡ share_of held tid
    own_share mine =
        ap (λ (es : List (Tid × Share)). unwrap_or (lookup (is_at (tid_cmp tid)) es) nothing_held) h.shares
        ∙ ap (λ (o : Option Share). unwrap_or o nothing_held) (lookup_seen tid_cmp tid_exact at_exact tid_total seen tid mine held.shares)

    pub put_table : seen tid ≡ true → (share : Share) → HoldsTable seen (with_share kept tid share) (with_share held tid share)
    put_table mine share = record {
      contents = h.contents;
      notes = h.notes;
      shares = ap (λ (es : List (Tid × Share)). insert_entry tid_cmp es tid share) h.shares ∙ sym (filter_put tid_cmp tid_exact at_exact tid_total seen tid share mine held.shares h.rising);
      rising = put_rises tid_cmp tid_total tid share held.shares h.rising;
    }

    pub hide_table : seen tid ≡ false → (share : Share) → HoldsTable seen kept (with_share held tid share)
    hide_table other share = record {
      contents = h.contents;
      notes = h.notes;
      shares = h.shares ∙ sym (filter_hide tid_cmp tid_exact at_exact tid_total seen tid share other held.shares);
      rising = put_rises tid_cmp tid_total tid share held.shares h.rising;
    }

    pub release_table : HoldsTable seen (released kept tid) (released held tid)
    release_table = record {
      contents = h.contents;
      notes = h.notes;
      shares = ap (λ (es : List (Tid × Share)). remove_entry (is_at (tid_cmp tid)) es) h.shares ∙ sym (filter_removed tid_cmp tid_exact at_exact tid_total seen tid held.shares h.rising);
      rising = remove_rises tid_cmp (is_at (tid_cmp tid)) held.shares h.rising;
    }

    -- it is crossed from now on
    pub cross_table : (now : Tid → Bool) → ((t : Tid) → now t ≡ (seen t && not (is_at (tid_cmp tid) t))) → HoldsTable now (released kept tid) held
    cross_table now hides = record {
      contents = h.contents;
      notes = h.notes;
      shares = ap (λ (es : List (Tid × Share)). remove_entry (is_at (tid_cmp tid)) es) h.shares ∙ sym (filter_crossed tid_cmp tid_exact at_exact tid_total seen now tid hides held.shares h.rising);
      rising = h.rising;
    }

    pub serve_table : seen tid ≡ true → (op : Op) (reply : Reply) → HoldsTable seen (served kept tid op reply) (served held tid op reply)
    serve_table mine op reply = subst (λ (s : Share). HoldsTable seen (with_share kept tid (after_serve s op reply)) (served held tid op reply)) (sym (own_share mine)) (put_table mine (after_serve (share_of held tid) op reply))

    pub vote_table : seen tid ≡ true → (b : Bool) → HoldsTable seen (with_vote kept tid b) (with_vote held tid b)
    vote_table mine b = subst (λ (s : Share). HoldsTable seen (with_share kept tid (record s { voted = b })) (with_vote held tid b)) (sym (own_share mine)) (put_table mine (record (share_of held tid) { voted = b }))

pub commit_table : (seen : Tid → Bool) (kept held : TableValue) → HoldsTable seen kept held → (tid : Tid) → seen tid ≡ true → HoldsTable seen (committed kept tid) (committed held tid)
commit_table seen kept held h tid mine =
    subst (λ (s : Share). HoldsTable seen (released (applied kept s.changes) tid) (committed held tid)) (sym (own_share seen kept held h tid mine))
    (release_table seen (applied kept (share_of held tid).changes) (applied held (share_of held tid).changes) (apply_table seen kept held h (share_of held tid).changes) tid)

-- ---- timers

module _ (seen : Tid → Bool) (kept held : TimersValue) (h : HoldsTimers seen kept held) where
  pub timers_alike : (now : Tid → Bool) → ((t : Tid) → now t ≡ seen t) → HoldsTimers now kept held
  timers_alike now same = record {
    ticks = h.ticks;
    shares = h.shares ∙ sym (filter_alike (of_seen {S = TimerShareValue} seen) (of_seen now) (λ e. same e.0) held.shares);
    rising = h.rising;
  }

  module _ (tid : Tid) where
    pub own_timers : seen tid ≡ true → timer_share_of kept tid ≡ timer_share_of held tid
    own_timers mine =
        ap (λ (es : List (Tid × TimerShareValue)). unwrap_or (lookup (is_at (tid_cmp tid)) es) no_timer_share) h.shares
        ∙ ap (λ (o : Option TimerShareValue). unwrap_or o no_timer_share) (lookup_seen tid_cmp tid_exact at_exact tid_total seen tid mine held.shares)

    pub end_timers : HoldsTimers seen (timers_ended kept tid) (timers_ended held tid)
    end_timers = record {
      ticks = h.ticks;
      shares = ap (λ (es : List (Tid × TimerShareValue)). remove_entry (is_at (tid_cmp tid)) es) h.shares ∙ sym (filter_removed tid_cmp tid_exact at_exact tid_total seen tid held.shares h.rising);
      rising = remove_rises tid_cmp (is_at (tid_cmp tid)) held.shares h.rising;
    }

    pub cross_timers : (now : Tid → Bool) → ((t : Tid) → now t ≡ (seen t && not (is_at (tid_cmp tid) t))) → HoldsTimers now (timers_ended kept tid) held
    cross_timers now hides = record {
      ticks = h.ticks;
      shares = ap (λ (es : List (Tid × TimerShareValue)). remove_entry (is_at (tid_cmp tid)) es) h.shares ∙ sym (filter_crossed tid_cmp tid_exact at_exact tid_total seen now tid hides held.shares h.rising);
      rising = h.rising;
    }

    abbrev served_share : TimersValue → Op → Reply → TimerShareValue
    served_share table op reply = after_timer table.ticks (timer_share_of table tid) op reply

    pub serve_timers : seen tid ≡ true → (op : Op) (reply : Reply) → HoldsTimers seen (timer_served kept tid op reply) (timer_served held tid op reply)
    serve_timers mine op reply = record {
      ticks = h.ticks;
      shares =
          ap (λ (s : TimerShareValue). insert_entry tid_cmp kept.shares tid (after_timer kept.ticks s op reply)) (own_timers mine)
          ∙ (ap (λ ticks. insert_entry tid_cmp kept.shares tid (after_timer ticks (timer_share_of held tid) op reply)) h.ticks
          ∙ (ap (λ (es : List (Tid × TimerShareValue)). insert_entry tid_cmp es tid (served_share held op reply)) h.shares
          ∙ sym (filter_put tid_cmp tid_exact at_exact tid_total seen tid (served_share held op reply) mine held.shares h.rising)));
      rising = put_rises tid_cmp tid_total tid (served_share held op reply) held.shares h.rising;
    }

    pub hide_timers : seen tid ≡ false → (op : Op) (reply : Reply) → HoldsTimers seen kept (timer_served held tid op reply)
    hide_timers other op reply = record {
      ticks = h.ticks;
      shares = h.shares ∙ sym (filter_hide tid_cmp tid_exact at_exact tid_total seen tid (served_share held op reply) other held.shares);
      rising = put_rises tid_cmp tid_total tid (served_share held op reply) held.shares h.rising;
    }
