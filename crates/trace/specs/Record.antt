-- 01, The trace form: "A record is a two-byte length (bytes after it), a two-byte kind, a body. Length is 2 to 4,096."
--     record_max          the most bytes that a record has after its length
--     framed s n          the front of a trace whose length field says n
--     split_of s          what stands at the front of a trace
--     record_of front s   the kind and the body of the record at the front of s; of one too small for a kind, the bytes there are
--     rest_of front s     "Taking one record off hands back the unread rest of the caller's buffer."
use Rattle.std.specs.Prelude.{ℕ, ◌+◌, cond, List, [], length, drop, ltb}
use Rattle.certificates.specs.Num.{num_at}
use Rattle.trace.specs.Part.{between}
use Rattle.trace.specs.declared.record.Front.{Front}
use Rattle.trace.specs.declared.record.Front.TheVariants.{End, Cut, Small, Record}

abbrev pub record_max : ℕ
record_max = 4096

-- "A length above 4,096 or a record cut by the end gets ANSWER 16 and ends the run."
unfoldable pub framed : List ℕ → ℕ → Front
framed s n =
    cond (ltb record_max n) Cut
    (cond (ltb (length s) (n + 2)) Cut
    (cond (ltb n 2) (Small (n + 2))
    (Record (num_at 2 s 2) (n + 2))))

unfoldable pub split_of : List ℕ → Front
split_of s = cond (ltb (length s) 1) End (cond (ltb (length s) 2) Cut (framed s (num_at 2 s 0)))

abbrev pub record_of : Front → List ℕ → List ℕ
record_of End s = []
record_of Cut s = []
record_of (Small end) s = between 2 end s
record_of (Record kind end) s = between 2 end s

abbrev pub rest_of : Front → List ℕ → List ℕ
rest_of End s = []
rest_of Cut s = []
rest_of (Small end) s = drop end s
rest_of (Record kind end) s = drop end s
