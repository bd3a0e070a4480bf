-- The slots of keys in a Redis Cluster.
use Rattle.std.specs.Prelude.{◌≡◌, ℕ, ◌+◌, ◌%◌, ◌==◌, List, [], ◌∷◌, length, take, drop, codes, nat_lt, ◌&&◌, if◌then◌else◌}
use Rattle.resp_commands.specs.Checksums.{crc16}

-- the number of bytes before the first such byte, or of all bytes if there is no such byte
abbrev pub bytes_before : ℕ → List ℕ → ℕ
bytes_before wanted [] = 0
bytes_before wanted (byte ∷ bytes) = if byte == wanted then 0 else bytes_before wanted bytes + 1

-- the bytes before the first `}`, if it is there and not at the beginning, and otherwise the key
abbrev pub tag_or_key : List ℕ → List ℕ → List ℕ
tag_or_key key rest =
    let count = bytes_before 125 rest in
    if nat_lt 0 count && nat_lt count (length rest) then take count rest else key

-- the part of a key that decides its slot: the hash tag after the first `{`, or the key
abbrev pub hashed_part : List ℕ → List ℕ
hashed_part key = tag_or_key key (drop (bytes_before 123 key + 1) key)

abbrev pub slot_of : List ℕ → ℕ
slot_of key = crc16 (hashed_part key) % 16384

-- the check value of CRC-16/XMODEM, and the examples of the specification of Redis Cluster
pub record PublishedExamples : Type 0 where
  pub check : crc16 (codes "123456789") ≡ 0x31c3
  pub following : hashed_part (codes "{user1000}.following") ≡ codes "user1000"
  pub followers : hashed_part (codes "{user1000}.followers") ≡ codes "user1000"
  pub empty_tag : hashed_part (codes "foo{}{bar}") ≡ codes "foo{}{bar}"
  pub inner_brace : hashed_part (codes "foo{{bar}}zap") ≡ codes "{bar"
  pub first_tag : hashed_part (codes "foo{bar}{zap}") ≡ codes "bar"
