-- Lists of channels, by number.
use Rattle.std.proofs.Common.{◌≡◌, ◌≢◌, ℕ, zero, suc, ◌-◌, ◌<◌, Bool, true, false, cond, not, ◌&&◌, List, [], ◌∷◌}
use Rattle.std.proofs.Common.{length, replicate, refl, ap, sym, ◌∙◌, inl, inr, ne_eqb, arith}
use Rattle.std.proofs.lemmas.Bool.{cases_eq, eq-eqb}
use Rattle.std.proofs.lemmas.List.{get_or-set_same, get_or-set_other, length-set}
use Rattle.iox2_machine.specs.machine.Channel.{Channel, new_channel, is_in_state, is_closed, changed_if}
use Rattle.iox2_machine.specs.machine.Numbers.{put_at}
use Rattle.iox2_connections.specs.Link.{Link, channel_at, changed_in, channels_changed, having_channels}
use mathlib.Core.Path.{fun_ext}

-- each channel of a new connection is new
pub all-new : (count number : ℕ) → channel_at (replicate count new_channel) number ≡ new_channel
all-new zero number = refl
all-new (suc count) zero = refl
all-new (suc count) (suc number) = all-new count number

-- channel 0 and those behind it
pub one-more : (count : ℕ) → 0 < count → (new_channel ∷ replicate (count - 1) new_channel) ≡ replicate count new_channel
one-more zero some = absurd (omega (arith, some))
one-more (suc count) some =
    ap (λ (n : ℕ). new_channel ∷ replicate n new_channel) (let less : suc count - 1 ≡ count = omega arith in less)

-- a mark that an open channel allows stays
mark-stays : (is_open shut : Bool) → (is_open ≡ true → shut ≡ false) → (is_open && not shut) ≡ is_open
mark-stays true shut marked = ap not (marked refl)
mark-stays false shut marked = refl

-- a change of a channel behind channel 0 leaves that and the mark
pub further-changed : (c : Link) (first : Channel) (rest : List Channel) (number expected : ℕ)
    (change : Channel → Channel) → c.channels ≡ (first ∷ rest) → (c.is_open ≡ true → is_closed first ≡ false)
    → number ≢ 0
    → having_channels (channels_changed number expected change c.channels) c ≡ record c
    { channels = first ∷ channels_changed (number - 1) expected change rest }
further-changed c first rest zero expected change is marked some = absurd (some refl)
further-changed c first rest (suc number) expected change is marked some =
    ap (λ (channels : List Channel). having_channels (channels_changed (suc number) expected change channels) c) is
    ∙ (λ i. record c {
      is_open = mark-stays c.is_open (is_closed first) marked i;
      channels = first ∷ channels_changed (less i) expected change rest;
    })
  where
    less : number ≡ suc number - 1
    less = omega arith

module _ (expected : ℕ) (change : Channel → Channel) where
  -- the channels are as many as before
  pub changed-length : (number : ℕ) (channels : List Channel)
      → length (channels_changed number expected change channels) ≡ length channels
  changed-length number channels = length-set channels number (changed_in expected change (channel_at channels number))

  -- the machine sees the change of a channel that is there
  pub changed-reads : (number : ℕ) (channels : List Channel) → number < length channels
      → channel_at (channels_changed number expected change channels) ≡ changed_if number expected change
      (channel_at channels)
  changed-reads number channels below =
      fun_ext (λ k. elim (cases_eq k number) [ inl same ↦ here k same | inr away ↦ there k away ]) where
        channel : Channel
        channel = channel_at channels number

        here : (k : ℕ) → k ≡ number → channel_at
            (channels_changed number expected change channels) k ≡ changed_if number expected change
            (channel_at channels) k
        here k same =
            ap (channel_at (channels_changed number expected change channels)) same
            ∙ get_or-set_same channels number (changed_in expected change channel) new_channel below
            ∙ by (is_in_state expected channel)
            ∙ sym (ap (changed_if number expected change (channel_at channels)) same)
          where
            by : (b : Bool) → cond b (change channel) channel ≡ cond b
                (put_at (channel_at channels) number (change channel)) (channel_at channels) number
            by true = sym (ap (λ (t : Bool). cond t (change channel) channel) (eq-eqb number number refl))
            by false = refl

        there : (k : ℕ) → k ≢ number → channel_at
            (channels_changed number expected change channels) k ≡ changed_if number expected change
            (channel_at channels) k
        there k away = get_or-set_other channels number k (changed_in expected change channel) new_channel away
            ∙ by (is_in_state expected channel) where
              by : (b : Bool) → channel_at channels k ≡ cond b (put_at (channel_at channels) number (change channel))
                  (channel_at channels) k
              by true = sym (ap (λ (t : Bool). cond t (change channel) (channel_at channels k)) (ne_eqb k number away))
              by false = refl

  module _ (once : (channel : Channel) → change (change channel) ≡ change channel) where
    either-is : (b : Bool) (x y : Channel) → x ≡ y → cond b x y ≡ y
    either-is true x y same = same
    either-is false x y same = refl

    in-twice : (channel : Channel)
        → changed_in expected change (changed_in expected change channel) ≡ changed_in expected change channel
    in-twice channel = by (is_in_state expected channel) refl where
      by : (b : Bool) → is_in_state expected channel ≡ b
          → changed_in expected change (cond b (change channel) channel) ≡ cond b (change channel) channel
      by true e =
          either-is (is_in_state expected (change channel)) (change (change channel)) (change channel) (once channel)
      by false e = ap (λ (b : Bool). cond b (change channel) channel) e

    -- a change that is made again changes nothing more
    pub channels-twice : (number : ℕ) (channels : List Channel)
        → channels_changed number expected change
        (channels_changed number expected change channels) ≡ channels_changed number expected change channels
    channels-twice number [] = refl
    channels-twice zero (x ∷ channels) = ap (λ (y : Channel). y ∷ channels) (in-twice x)
    channels-twice (suc number) (x ∷ channels) = ap (λ (rest : List Channel). x ∷ rest) (channels-twice number channels)
