-- One byte more of a line.
use Rattle.std.proofs.Common.{◌≡◌, ◌≢◌, ℕ, ◌+◌, ◌-◌, ◌<◌, List, [], ◌∷◌, ◌++◌, length, min, refl, ap, arith, length-append}
use Rattle.ds_server.specs.SessionLines.{HasNoFeed, ReadsOver, ReadsLong}

-- bytes without a line feed, and another byte after them that is none, have none
pub no_feed_more : (bytes : List ℕ) (b : ℕ) → HasNoFeed bytes → b ≢ 10 → HasNoFeed (bytes ++ b ∷ [])
no_feed_more [] b h n = (n, tt)
no_feed_more (c ∷ bytes) b h n = (h.0, no_feed_more bytes b h.1 n)

-- as many bytes as could come without a line feed, and one more, are over
pub reads_over : (left now : ℕ) (seen : List ℕ) (b : ℕ) → HasNoFeed seen → length seen + now ≡ left → now ≡ 0 → ReadsOver left (seen ++ b ∷ [])
reads_over left now seen b h e z = record { front = seen; last = b; no_feed = h; is = refl; at = omega (arith, e, z) }

-- bytes of which too many stand before a line feed, and then that, are a line that is too long
pub reads_long : (most left now kept : ℕ) (seen : List ℕ) (b : ℕ) → HasNoFeed seen → length seen + now ≡ left → now ≢ 0 → b ≡ 10 → kept ≡ min (most + 1) (length seen) → most < kept
    → ReadsLong most left (seen ++ b ∷ []) (now - 1)
reads_long most left now kept seen b h e nz ten k long =
    record {
      whole = seen;
      is_line = record { no_feed = h; is = ap (λ (x : ℕ). seen ++ x ∷ []) ten };
      long = omega (arith, k, long);
      counted = omega (arith, length-append seen (b ∷ []), e, nz);
    }
