-- The streams of a directory by whether their type has a name, and what their iterators have left.
use Rattle.std.specs.Prelude.{ℕ, List, map, Option, Some, None, if◌then◌else◌}
use Rattle.std.specs.List.{filter_map}
use Rattle.std.specs.Slice.Iter.{iter_rest}
use Rattle.minidump_format.specs.declared.format.header.MINIDUMP_DIRECTORY.{MINIDUMP_DIRECTORY}
use Rattle.minidump_format.specs.declared.format.header.MINIDUMP_LOCATION_DESCRIPTOR.{MINIDUMP_LOCATION_DESCRIPTOR}
use Rattle.minidump_format.specs.declared.format.stream_type.MINIDUMP_STREAM_TYPE.{MINIDUMP_STREAM_TYPE}
use Rattle.minidump_format.specs.StreamType.{stream_type_of, is_unimplemented}
use Rattle.minidump_format.specs.Vendor.{vendor_of}
use Rattle.minidump.specs.declared.directory.DecidingEntry.{DecidingEntry}
use Rattle.minidump.specs.declared.streams.MinidumpUnknownStream.{MinidumpUnknownStream}
use Rattle.minidump.specs.declared.streams.MinidumpUnimplementedStream.{MinidumpUnimplementedStream}
use Rattle.minidump.specs.declared.streams.Streams.{Streams}
use Rattle.minidump.specs.declared.streams.UnknownStreams.{UnknownStreams}
use Rattle.minidump.specs.declared.streams.UnimplementedStreams.{UnimplementedStreams}

-- a stream: its type, by number or by name, the location of its bytes, and the vendor of its type
pub record StreamInfo (T : Type 0) : Type 0 where
  pub stream_type : T
  pub location : MINIDUMP_LOCATION_DESCRIPTOR
  pub vendor : List ℕ

-- a `MinidumpUnknownStream`, that is a stream whose type has no name, as its value
abbrev pub unknown_of : MinidumpUnknownStream → StreamInfo ℕ
unknown_of s = record { stream_type = s.stream_type; location = s.location; vendor = s.vendor.now }

-- a `MinidumpUnimplementedStream`, that is a stream whose type has a name and is never read, as its
-- value
abbrev pub unimplemented_of : MinidumpUnimplementedStream → StreamInfo MINIDUMP_STREAM_TYPE
unimplemented_of s = record { stream_type = s.stream_type; location = s.location; vendor = s.vendor.now }

-- the stream of an entry whose type has no name
abbrev where_unnamed : MINIDUMP_DIRECTORY → Option MINIDUMP_STREAM_TYPE → Option (StreamInfo ℕ)
where_unnamed e None =
    Some (record { stream_type = e.stream_type; location = e.location; vendor = vendor_of e.stream_type })
where_unnamed e (Some t) = None

-- the stream of an entry, where its type has no name
abbrev pub as_unknown : MINIDUMP_DIRECTORY → Option (StreamInfo ℕ)
as_unknown e = where_unnamed e (stream_type_of e.stream_type)

-- the stream of an entry whose type has a name and is not read
abbrev where_unimplemented : MINIDUMP_DIRECTORY → Option MINIDUMP_STREAM_TYPE → Option (StreamInfo MINIDUMP_STREAM_TYPE)
where_unimplemented e None = None
where_unimplemented e (Some t) =
    if is_unimplemented t
    then Some (record { stream_type = t; location = e.location; vendor = vendor_of e.stream_type })
    else None

-- the stream of an entry, where its type has a name and is not read
abbrev pub as_unimplemented : MINIDUMP_DIRECTORY → Option (StreamInfo MINIDUMP_STREAM_TYPE)
as_unimplemented e = where_unimplemented e (stream_type_of e.stream_type)

-- the entries of deciding ones
abbrev pub entries_of : List DecidingEntry → List MINIDUMP_DIRECTORY
entries_of ds = map (λ d. d.entry) ds

-- what an iterator has left
abbrev pub streams_left : Streams → List MINIDUMP_DIRECTORY
streams_left s = entries_of (iter_rest s.entries)

-- the streams without a name that an iterator has left
abbrev pub unknown_left : UnknownStreams → List (StreamInfo ℕ)
unknown_left s = filter_map as_unknown (streams_left s.streams)

-- the streams with a name that are not read, which an iterator has left
abbrev pub unimplemented_left : UnimplementedStreams → List (StreamInfo MINIDUMP_STREAM_TYPE)
unimplemented_left s = filter_map as_unimplemented (streams_left s.streams)
