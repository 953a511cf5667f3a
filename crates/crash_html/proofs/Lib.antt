mod EmbedLemmas
