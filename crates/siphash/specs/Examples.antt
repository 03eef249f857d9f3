-- The example that was published with the function, step by step: a key of the bytes 0 to 15 and a message of the bytes 0 to 14.
use Rattle.std.specs.Prelude.{◌≡◌}
use Rattle.std.specs.List.{range_with_len}
use Rattle.siphash.specs.SipHash.{siphash_2_4}

abbrev pub PublishedExample : Type 0
PublishedExample = siphash_2_4 (range_with_len 0 16) (range_with_len 0 15) ≡ 0xa129ca6149be45e5
