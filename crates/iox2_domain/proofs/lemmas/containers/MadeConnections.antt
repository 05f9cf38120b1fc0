-- A connection is made, where there was none between its ports.
use Rattle.std.proofs.Common.{◌≡◌, ◌≢◌, ℕ, ◌+◌, zero, suc, List, [], ◌∷◌, true, false, Bool, cond, ◌&&◌, get_or, refl}
use Rattle.std.proofs.Common.{ap, sym, ◌∙◌, ◌⊎◌, inl, inr, arith, replicate}
use Rattle.std.proofs.lemmas.Bool.{cases_eq, eqb-true}
use Rattle.std.proofs.lemmas.List.Sums.{sum_by-cons}
use Rattle.std.specs.List.{sum_by}
use Rattle.std.specs.declared.option.Option.{Option}
use Rattle.std.specs.declared.option.Option.TheVariants.{None, Some}
use Rattle.slab.specs.Slab.{Slab, get}
use Rattle.iox2_connections.specs.Link.{Link, channel_at, empty_link}
use Rattle.iox2_connections.specs.declared.connection.Home.{Home}
use Rattle.iox2_connections.specs.LookUp.{look_up}
use Rattle.iox2_connections.specs.Homes.{IsApart}
use Rattle.iox2_connections.specs.Counters.{stands}
use Rattle.iox2_connections.specs.Mailboxes.{is_between, mailboxes_of, mailbox_if_any, channels_if_any, channels_in}
use Rattle.iox2_machine.specs.machine.Channel.{new_channel}
use mathlib.Core.Path.{fun_ext}
use Rattle.iox2_connections.proofs.ChannelLists.{all-new}
use Rattle.iox2_domain.specs.Updates.{MakesConnection}
use Rattle.iox2_domain.proofs.lemmas.containers.LookUps.{look_up-written, IsOnly-inserted}
use Rattle.iox2_domain.proofs.lemmas.containers.Extensions.{Extends}

-- ---- sums over a slab

module _ {A : Type 0} (f : Option A → ℕ) (nothing : f None ≡ 0) where
  sum-same : (xs ys : List (Option A)) → ((k : ℕ) → get_or ys k None ≡ get_or xs k None) → sum_by f ys ≡ sum_by f xs
  sum-same [] [] same = refl
  sum-same [] (y ∷ ys) same =
      omega (arith, sum_by-cons f y ys, sum-same [] ys (λ k. same (suc k)), ap f (same zero), nothing)
  sum-same (x ∷ xs) [] same =
      omega (arith, sum_by-cons f x xs, sum-same xs [] (λ k. same (suc k)), ap f (same zero), nothing)
  sum-same (x ∷ xs) (y ∷ ys) same =
      omega (arith, sum_by-cons f x xs, sum_by-cons f y ys, sum-same xs ys (λ k. same (suc k)), ap f (same zero))

  -- one key of a slab is written, made or removed: the list may be longer or shorter
  pub sum-updated : (xs ys : List (Option A)) (key : ℕ) → ((k : ℕ) → k ≢ key → get_or ys k None ≡ get_or xs k None)
      → sum_by f ys + f (get_or xs key None) ≡ sum_by f xs + f (get_or ys key None)
  sum-updated [] [] key others = refl
  sum-updated [] (y ∷ ys) zero others =
      omega (arith, sum_by-cons f y ys, sum-same [] ys (λ k. others (suc k) (λ e. absurd cc)), nothing)
  sum-updated [] (y ∷ ys) (suc key) others =
      omega (
        arith,
        sum_by-cons f y ys,
        sum-updated [] ys key (λ k away. others (suc k) (λ e. away cc)),
        ap f (others zero (λ e. absurd cc)),
        nothing,
      )
  sum-updated (x ∷ xs) [] zero others =
      omega (arith, sum_by-cons f x xs, sum-same xs [] (λ k. others (suc k) (λ e. absurd cc)), nothing)
  sum-updated (x ∷ xs) [] (suc key) others =
      omega (
        arith,
        sum_by-cons f x xs,
        sum-updated xs [] key (λ k away. others (suc k) (λ e. away cc)),
        ap f (others zero (λ e. absurd cc)),
        nothing,
      )
  sum-updated (x ∷ xs) (y ∷ ys) zero others =
      omega (arith, sum_by-cons f x xs, sum_by-cons f y ys, sum-same xs ys (λ k. others (suc k) (λ e. absurd cc)))
  sum-updated (x ∷ xs) (y ∷ ys) (suc key) others =
      omega (
        arith,
        sum_by-cons f x xs,
        sum_by-cons f y ys,
        sum-updated xs ys key (λ k away. others (suc k) (λ e. away cc)),
        ap f (others zero (λ e. absurd cc)),
      )

-- ---- connections

module _ (old new : Slab Link) (home : Home) (buffer limit count key : ℕ) (apart : IsApart old)
    (none : look_up (is_between home.publisher home.subscriber) old.slots ≡ None)
    (made : MakesConnection old home buffer limit count key new) where
  abbrev link : Link
  link = empty_link home buffer limit count

  both : (a b : Bool) → (a && b) ≡ true → (a ≡ true) × (b ≡ true)
  both true b e = (refl, e)
  both false b e = absurd cc

  none_between : (p q : ℕ) → is_between p q link ≡ true → look_up (is_between p q) old.slots ≡ None
  none_between p q e = let parts = both _ _ e in
      rw (eqb-true home.publisher p parts.0, eqb-true home.subscriber q parts.1) at none

  made-apart : IsApart new
  made-apart = record {
    one = λ p q. IsOnly-inserted (is_between p q) old.slots new.slots key link (apart.one p q)
        (none_between p q) made.made.changed made.made.others;
  }

  nothing_stands : (p slot : ℕ) → stands p slot (Some link) ≡ 0
  nothing_stands p slot = grind arith

  made-channels : (p q : ℕ) → channels_in new p q ≡ channels_in old p q
  made-channels p q =
      ap channels_if_any (look_up-written (is_between p q) old.slots new.slots key link (made-apart.one p q)
      (λ c at. absurd (let no : None ≡ Some c = sym made.was_free ∙ at in cc)) made.made.changed made.made.others)
      ∙ by (is_between p q link) refl
    where
      by : (b : Bool) → is_between p q link ≡ b
          → channels_if_any (cond b (Some link) (look_up (is_between p q) old.slots)) ≡ channels_if_any
          (look_up (is_between p q) old.slots)
      by true e = fun_ext fresh ∙ sym (ap channels_if_any (none_between p q e)) where
        fresh : (k : ℕ) → channel_at (replicate count new_channel) k ≡ new_channel
        fresh k = all-new count k
      by false e = refl

  made-grows : (k : ℕ) (c : Link) → get old k ≡ Some c → get new k ≡ Some c
  made-grows k c at = made.made.others k
      (λ here. absurd (let no : None ≡ Some c = sym made.was_free ∙ sym (ap (get old) here) ∙ at in cc)) ∙ at

  -- all else is as before
  pub made-extends : Extends old new
  made-extends =
      record { apart = made-apart; sums = sums; boxes = boxes; channels = made-channels; grows = made-grows } where
        sums : (p slot : ℕ) → sum_by (stands p slot) new.slots ≡ sum_by (stands p slot) old.slots
        sums p slot =
            omega (
              arith,
              sum-updated (stands p slot) refl old.slots new.slots key made.made.others,
              ap (stands p slot) made.was_free,
              ap (stands p slot) made.made.changed,
              nothing_stands p slot,
            )

        boxes : (number : ℕ → ℕ → ℕ) (p q : ℕ) → mailboxes_of number new p q ≡ mailboxes_of number old p q
        boxes number p q =
            ap (mailbox_if_any (number p))
            (look_up-written (is_between p q) old.slots new.slots key link (made-apart.one p q)
            (λ c at. absurd (let no : None ≡ Some c = sym made.was_free ∙ at in cc)) made.made.changed made.made.others)
            ∙ by (is_between p q link) refl
          where
            by : (b : Bool) → is_between p q link ≡ b → mailbox_if_any (number p)
                (cond b (Some link) (look_up (is_between p q) old.slots)) ≡ mailbox_if_any (number p)
                (look_up (is_between p q) old.slots)
            by true e = sym (ap (mailbox_if_any (number p)) (none_between p q e))
            by false e = refl

  -- what is there was there before, or is the new connection
  pub made-news : (k : ℕ) (c : Link) → get new k ≡ Some c → (get old k ≡ Some c) ⊎ ((k ≡ key) × (c ≡ link))
  made-news k c at = elim (cases_eq k key) [
    | inl here ↦
        let there : Some link ≡ Some c = sym made.made.changed ∙ sym (ap (get new) here) ∙ at in
        let is : c ≡ link = cc in
        inr (here, is)
    | inr away ↦ inl (sym (made.made.others k away) ∙ at)
  ]
