-- What a source over a reader and a sink over a writer hold.
use Rattle.std.specs.Prelude.{ℕ}
use Rattle.outside_io.specs.declared.std_source.StdSource.{StdSource}
use Rattle.outside_io.specs.declared.std_sink.StdSink.{StdSink}

abbrev pub reader_of : {R : Type 0} → StdSource R → R
reader_of source = source.reader

-- how many reads failed; the count stands still at 2^64 - 1
abbrev pub read_faults : {R : Type 0} → StdSource R → ℕ
read_faults source = source.faults

abbrev pub writer_of : {W : Type 0} → StdSink W → W
writer_of sink = sink.writer

-- how many writes failed; the count stands still at 2^64 - 1
abbrev pub write_faults : {W : Type 0} → StdSink W → ℕ
write_faults sink = sink.faults
